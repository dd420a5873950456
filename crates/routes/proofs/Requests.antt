-- What is read of a request, and that it may be answered.
pub mod AddressedRequests
pub mod AskFeeds
pub mod BodyAsks
pub mod NameSizes
pub mod SingleReadings
pub mod RunLines
pub mod RunRequests
pub mod TopicSizes
