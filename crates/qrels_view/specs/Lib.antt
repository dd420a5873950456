pub mod CountedGrades
pub mod Grades
pub mod Lines
pub mod Places
pub mod GradeViews
