pub mod laws
pub mod RuleParts
