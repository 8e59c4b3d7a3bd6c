pub mod PairSets
pub mod PairRows
