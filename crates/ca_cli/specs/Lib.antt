pub mod Statuses
pub mod Inputs
pub mod Readings
pub mod RightAnswers
