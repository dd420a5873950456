-- What is said over a link, and the entries that come of it.
pub mod Connections
pub mod EntryNumbers
pub mod LeaseAnswers
pub mod OwnEntries
pub mod Talks
