-- The lines of a run by topic, and the documents of each topic by rank.
pub mod CountIn
pub mod TopicGroups
pub mod KeptDocnos
pub mod GroupLists
pub mod NewestPlace
pub mod RankOrder
pub mod TopicOrder
