pub mod AgreeingLabels
pub mod DisagreeingDocs
pub mod Documents
pub mod Entries
pub mod GradeMeanings
pub mod SetLabels
