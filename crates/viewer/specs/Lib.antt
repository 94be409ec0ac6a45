pub mod Entries
pub mod Effects
pub mod Hearing
pub mod Laws
