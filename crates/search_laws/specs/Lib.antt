pub mod Walks
pub mod SearchQueues
pub mod PairWalks
