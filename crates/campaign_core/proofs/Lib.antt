pub mod Entries
pub mod NamedDocuments
pub mod Lists
pub mod Numbers
pub mod PageTexts
pub mod Rulings
