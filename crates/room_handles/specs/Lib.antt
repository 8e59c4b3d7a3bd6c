pub mod Held
pub mod Hidden
