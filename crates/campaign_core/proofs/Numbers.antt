-- Documents, topics, runs and requests by their numbers.
pub mod AddedDocs
pub mod DocNumbers
pub mod NumberTables
pub mod NumberedDocs
pub mod RunGroups
pub mod RunPlaces
pub mod TopicIds
pub mod TopicNumbers
pub mod TopicPlaces
pub mod UsedNumbers
