pub mod StartLaws
pub mod WindowLaws
pub mod FirstWindowLaws
pub mod PastRanks
pub mod RankStarts
pub mod FirstSearches
pub mod LeastWindows
pub mod TurnSteps
mod BothWays
