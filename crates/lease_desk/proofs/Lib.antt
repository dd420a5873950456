pub mod CountAnswers
pub mod SeriesCounts
pub mod LeaseEnds
pub mod NextLeases
pub mod DeskSteps
pub mod LastPlaces
pub mod Numbers
