pub mod Answers
pub mod Feeding
pub mod Words
pub mod LongLines
pub mod PrintedRows
