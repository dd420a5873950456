-- Grades that change: what a topic and its lists stand for then, and what it takes.
pub mod ListGrades
pub mod MarkedPlaces
pub mod Standings
pub mod Costs
