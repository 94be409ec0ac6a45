pub mod Joining
pub mod Over
pub mod Places
