-- A text line by line, a line field by field, and the value of a field.
pub mod Cuts
pub mod DocnoCuts
pub mod FirstBytes
pub mod Grades
pub mod Pieces
pub mod Progress
pub mod Readings
