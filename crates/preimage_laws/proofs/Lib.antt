pub mod Pigeons
pub mod Separated
pub mod Followed
pub mod Counts
pub mod Constant
pub mod OneToOne
