pub mod AscendingPlaces
pub mod GrowingStories
pub mod SeatViews
pub mod TurnSteps
pub mod SeatSteps
pub mod ActSteps
