pub mod Places
pub mod Holding
pub mod Fed
pub mod Printing
pub mod Known
pub mod Long
pub mod Table
