pub mod Preimages
pub mod Lengths
pub mod Answers
pub mod Walks
pub mod Relations
pub mod Parts
pub mod FirstWalks
pub mod Examples
