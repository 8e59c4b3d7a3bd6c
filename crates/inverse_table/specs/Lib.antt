pub mod InverseMaps
pub mod MapLimits
pub mod ImageValues
pub mod InverseFaults
pub mod Examples
