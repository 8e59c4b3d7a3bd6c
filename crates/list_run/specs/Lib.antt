pub mod Statuses
pub mod Lines
pub mod Lists
pub mod Answers
