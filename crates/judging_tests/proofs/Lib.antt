pub mod BoardShapes
mod QueuedTopicSteps
