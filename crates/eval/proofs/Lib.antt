pub mod JudgedDocuments
pub mod LinesOrFaults
pub mod ListsByTopic
pub mod RankedRuns
pub mod Tallies
pub mod TopicLines
pub mod Topics
