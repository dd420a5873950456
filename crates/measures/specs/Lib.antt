pub mod Cells
pub mod Grades
pub mod Means
pub mod ScoreLines
pub mod Totals
