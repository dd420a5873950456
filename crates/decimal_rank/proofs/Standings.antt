-- The order of decimal values, and the lists of documents in it.
pub mod Docnos
pub mod Keys
pub mod ListPlaces
pub mod Search
pub mod StandingOrder
pub mod Values
