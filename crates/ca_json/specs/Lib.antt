pub mod Values
pub mod Findings
pub mod Causes
pub mod Replies
pub mod Examples
