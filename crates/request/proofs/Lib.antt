pub mod Spellings
pub mod Anewed
pub mod Checks
pub mod Sames
pub mod Adding
pub mod Table
