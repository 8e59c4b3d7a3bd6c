pub mod Claims
pub mod Rows
pub mod Judging
pub mod FirstPairs
pub mod RingWindows
pub mod Parts
