pub mod SideWindows
pub mod Rows
pub mod Checks
