pub mod Verdicts
pub mod Examples
