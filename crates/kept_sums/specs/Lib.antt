pub mod Sums
pub mod Rows
pub mod Spans
pub mod Stages
pub mod Trivials
pub mod Fluxes
pub mod RangeFaults
pub mod Independence
