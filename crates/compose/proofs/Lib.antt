pub mod Placed
pub mod Holding
pub mod Composing
pub mod ReadingBack
pub mod Wholes
pub mod Rooms
pub mod Refusing
