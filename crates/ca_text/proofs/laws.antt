pub mod Appended
pub mod Decimals
pub mod WeightLines
pub mod Rows
pub mod RefusalWords
