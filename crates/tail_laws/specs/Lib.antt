pub mod SplitWalks
pub mod FirstLists
pub mod Turns
pub mod Closing
