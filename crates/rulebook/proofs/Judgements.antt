-- Labels, rulings and the trail of a list of entries that can come about.
pub mod Trails
pub mod ListedDocuments
pub mod NextLabels
pub mod NextEntries
pub mod FewLabels
pub mod LastGrades
pub mod RuledDocuments
