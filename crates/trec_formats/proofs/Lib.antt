pub mod LineTexts
pub mod RankedLists
pub mod RepeatedDocuments
pub mod RunTexts
pub mod TopicTexts
