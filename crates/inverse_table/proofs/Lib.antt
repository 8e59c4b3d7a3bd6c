pub mod WordCounts
pub mod ImageLaws
pub mod ReadLaws
pub mod InverseLaws
pub mod MapRules
