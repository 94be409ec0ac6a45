pub mod Composing
pub mod Apart
pub mod Backing
pub mod Updating
