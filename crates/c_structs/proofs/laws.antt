pub mod NextRules
pub mod LetterRows
pub mod Reports
pub mod Filled
pub mod Degrees
