pub mod NewGrades
pub mod Places
pub mod TrailPlaces
pub mod SortedDocs
