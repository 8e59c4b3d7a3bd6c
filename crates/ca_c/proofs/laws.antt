pub mod Blocks
pub mod FirstWords
pub mod Calls
