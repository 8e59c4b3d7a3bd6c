pub mod Verdicts
pub mod Covers
