-- The labels, the grades and the leases, after one more entry.
pub mod GrowingNames
pub mod LabelCounts
pub mod LabelSteps
pub mod LabelledDocs
pub mod LabelledTopics
pub mod LeaseSteps
pub mod QuietEntries
