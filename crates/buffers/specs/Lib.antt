pub mod Impostors
pub mod Rings
pub mod Singles
pub mod Turning
