pub mod Algebra
pub mod MadeImages
pub mod AlgebraFaults
pub mod Tabulated
pub mod Tables
pub mod Examples
pub mod FaultTexts
