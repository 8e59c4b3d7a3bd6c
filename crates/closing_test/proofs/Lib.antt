pub mod LookAheads
pub mod LeastWalks
pub mod SplitTails
mod EndlessFirsts
mod SeenSplits
