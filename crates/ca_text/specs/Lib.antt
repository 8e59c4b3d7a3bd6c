pub mod Reports
pub mod Rooms
pub mod Lines
pub mod Texts
pub mod StatusLines
pub mod Replies
pub mod Examples
