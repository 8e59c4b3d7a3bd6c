pub mod PrintedRules
pub mod RuleTexts
pub mod TextReadings
pub mod Heads
pub mod Beginnings
pub mod Examples
pub mod FaultTexts
