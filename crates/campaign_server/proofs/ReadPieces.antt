-- The pieces of a connection, as they are read and made into asks.
pub mod ConnectionBytes
pub mod PiecePlaces
pub mod StreamSteps
