pub mod Erasures
pub mod ReachedSearches
pub mod ReachedRows
pub mod ZeroEdges
