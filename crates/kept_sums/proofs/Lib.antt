pub mod Casts
pub mod laws
