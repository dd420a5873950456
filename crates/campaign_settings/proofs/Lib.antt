pub mod AscendingNeighbours
pub mod Documents
pub mod DataPrefixes
pub mod Lists
pub mod Sound
pub mod TableKeys
