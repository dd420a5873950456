-- What is said on a connection, request by request.
pub mod TalkChains
pub mod FaultCounts
pub mod KnownTalks
pub mod SpokenRequests
pub mod LongerTalks
pub mod AnsweredRequests
