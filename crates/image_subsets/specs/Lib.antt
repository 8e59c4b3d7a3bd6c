pub mod FamilyTrees
pub mod Masks
pub mod Searches
pub mod StepTables
pub mod Marks
pub mod SmallestSets
