pub mod RowTexts
pub mod RowLines
pub mod RowReading
pub mod RowHearing
