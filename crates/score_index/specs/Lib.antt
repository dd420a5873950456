pub mod Filters
pub mod KeptBoards
pub mod KeptSums
pub mod Places
pub mod Scores
pub mod BoardGrades
