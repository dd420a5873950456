-- Which lines name one document of a topic.
pub mod DifferentDocuments
pub mod JudgedLines
pub mod Repeats
pub mod ShownLines
