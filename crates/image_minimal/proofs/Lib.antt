mod Common
pub mod laws
pub mod Indexes
pub mod Searches
pub mod ClassSearches
pub mod Joins
pub mod LinkSearches
