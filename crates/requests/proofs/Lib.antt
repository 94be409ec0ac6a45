pub mod Taking
pub mod Least
pub mod Fitting
pub mod Pairing
pub mod Forming
pub mod Asking
pub mod Refusing
pub mod Wording
