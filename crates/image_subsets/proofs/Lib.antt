pub mod Searches
pub mod LeastWords
pub mod MaskLists
pub mod Steps
pub mod RowMarks
pub mod MarkSpreads
pub mod Minimal
pub mod SmallestSets
