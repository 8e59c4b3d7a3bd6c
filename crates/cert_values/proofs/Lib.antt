pub mod laws
pub mod Common
