pub mod Questions
pub mod QuestionValues
pub mod Samples
pub mod Counts
pub mod Findings
pub mod Replies
pub mod Values
pub mod Writable
