pub mod MovedWindows
pub mod Trims
pub mod MovedRings
