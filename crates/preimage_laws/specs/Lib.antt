pub mod PreimageCounts
pub mod Examples
