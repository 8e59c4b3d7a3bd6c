pub mod laws
pub mod Storage
pub mod Examples
pub mod Common
