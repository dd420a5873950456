-- The rows of the paths, and what may be asked at each.
pub mod CodeRows
pub mod RowAsks
pub mod SameElements
pub mod TableRows
