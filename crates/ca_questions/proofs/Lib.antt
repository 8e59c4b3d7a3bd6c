pub mod Fits
pub mod Writable
pub mod Common
