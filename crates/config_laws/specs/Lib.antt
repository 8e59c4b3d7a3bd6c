pub mod Maps
pub mod OneOfTwo
pub mod Repeating
pub mod Periodic
pub mod Sums
pub mod Composed
pub mod RingMaps
pub mod Examples
