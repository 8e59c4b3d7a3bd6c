pub mod NoFloats
pub mod Refusals
