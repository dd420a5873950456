pub mod Grades
pub mod DocumentLabels
pub mod LabelledDocuments
pub mod TopicLabelViews
