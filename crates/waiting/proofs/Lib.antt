pub mod Parts
pub mod Canonical
pub mod Forgetting
pub mod QueueRows
pub mod MarksIn
pub mod Putting
pub mod Refusing
