pub mod laws
pub mod Meets
pub mod Rows
pub mod OpenSets
