-- The documents that have two labels.
pub mod AgreedTopics
pub mod LabelledNames
pub mod TwoLabels
