pub mod Blocks
pub mod Calls
pub mod Weights
pub mod Examples
