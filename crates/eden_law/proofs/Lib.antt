pub mod LetterPairs
pub mod ErasureWalks
pub mod LeastErasures
pub mod FoundErasures
pub mod ReachedSearches
pub mod ReachedRows
