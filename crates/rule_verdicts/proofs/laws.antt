pub mod Openness
pub mod SideParts
pub mod Sums
pub mod WrittenParts
pub mod Means
pub mod Tables
pub mod Numbers
