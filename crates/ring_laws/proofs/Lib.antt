pub mod Rings
pub mod Walks
pub mod Gains
pub mod Fluxes
pub mod FluxWalks
pub mod LossyRings
pub mod FluxWindows
pub mod SameWeights
