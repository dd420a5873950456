mod Admissions
mod Cells
mod KeptTopics
mod GradeChanges
