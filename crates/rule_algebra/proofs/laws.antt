pub mod Tables
pub mod Limits
pub mod Shifts
pub mod Compositions
pub mod Widening
pub mod Recolouring
pub mod Trimming
pub mod Trimmed
