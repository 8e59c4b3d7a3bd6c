pub mod Keepings
pub mod LeastRings
