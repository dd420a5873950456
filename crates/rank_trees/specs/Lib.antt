pub mod Blocks
pub mod PlacesOn
pub mod SumTrees
pub mod Words
