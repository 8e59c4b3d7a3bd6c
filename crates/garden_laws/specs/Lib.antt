pub mod ReachedPairs
pub mod Preinjective
pub mod Preimages
pub mod Examples
pub mod Tables
pub mod ZeroPairs
