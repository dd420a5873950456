-- What the assessment has to do with the history: topics, labels, leases and scores.
pub mod DeskLeases
pub mod RunScores
pub mod TopicLabelling
pub mod Topics
