pub mod ImageLanguages
pub mod Closures
pub mod Indexes
pub mod Searches
pub mod Links
pub mod Joins
