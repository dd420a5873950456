pub mod QueuedTopics
pub mod ScoredBoard
