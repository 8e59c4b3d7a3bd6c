pub mod Samples
pub mod Counts
pub mod ClassTallies
pub mod OneClass
pub mod OwnWeights
