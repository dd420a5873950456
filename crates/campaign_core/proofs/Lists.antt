-- Facts of lists, and texts in byte order.
pub mod ByteOrder
pub mod DistinctTexts
pub mod Elements
pub mod FirstPlaces
pub mod SortedTexts
