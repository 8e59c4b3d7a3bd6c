pub mod laws
pub mod Sure
pub mod FixedSteps
pub mod RuledOut
pub mod FixedCycles
pub mod Flows
