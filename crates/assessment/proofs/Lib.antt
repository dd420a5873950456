pub mod DoneDocs
pub mod FrontSteps
mod RunChanges
pub mod ListFacts
mod QueueTrails
mod QueuedRuns
mod RoomCounts
mod TopicBoards
