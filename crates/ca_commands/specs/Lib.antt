pub mod Operands
pub mod WeightTexts
pub mod Commands
pub mod Asked
pub mod Asking
