pub mod Members
pub mod Uniqueness
pub mod WeightMembers
pub mod ShapeFaults
pub mod Written
pub mod Utf8Texts
