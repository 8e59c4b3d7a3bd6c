pub mod Objects
pub mod Arrays
pub mod Spellings
pub mod Evidence
pub mod Answers
pub mod Steps
