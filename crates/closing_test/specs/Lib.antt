pub mod Sides
pub mod LeastAheads
pub mod Walks
pub mod Closing
pub mod EndlessFirsts
