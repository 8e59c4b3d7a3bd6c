pub mod Counter
pub mod LeastRings
pub mod FluxRows
pub mod Differences
