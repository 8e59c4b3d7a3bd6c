pub mod Fewest
pub mod Degrees
