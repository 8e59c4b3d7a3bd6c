mod Sides
mod MostRank
mod TrimmedSets
mod Tables
