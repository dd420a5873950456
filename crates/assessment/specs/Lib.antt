pub mod TopicFacts
pub mod Fronts
pub mod RunLists
pub mod WaitingRuns
pub mod TopicsFacts
pub mod Changes
pub mod Costs
