-- The judgements without those that a group alone brought in.
pub mod GradedDocs
pub mod GroupPlaces
pub mod OwnDocs
pub mod ReducedDocs
pub mod ReducedTopics
pub mod RelevantDocs
