-- The topics format, block by block.
pub mod BlockSteps
pub mod BlockTexts
pub mod TopicIds
pub mod TopicLimits
pub mod TopicProgress
pub mod TopicReadings
pub mod TopicSteps
