pub mod Starts
pub mod FirstWindows
pub mod BothWays
