pub mod BookTalks
pub mod ReadPieces
pub mod ServerEnds
mod SharedTables
pub mod TalkSteps
