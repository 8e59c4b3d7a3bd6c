pub mod Inputs
pub mod RightAnswers
pub mod Writable
pub mod Fitting
