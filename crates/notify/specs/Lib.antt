pub mod Given
pub mod Composed
pub mod Written
pub mod Back
pub mod Examples
