-- The cell of a list by its places, and the sums that it is taken from.
pub mod ByPlaces
pub mod KeptCells
pub mod PlaceSums
pub mod SumSteps
pub mod MovedSums
