-- The topics format, and how topics are read.
pub mod FieldTexts
pub mod SoundTopics
pub mod TopicBlocks
pub mod TopicLineViews
pub mod TopicLines
pub mod Topics
