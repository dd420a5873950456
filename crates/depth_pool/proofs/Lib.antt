pub mod Counts
pub mod Holders
pub mod ListedDocs
pub mod Lists
pub mod ByNumber
pub mod Search
pub mod SingleDocnoOrder
pub mod Writes
