pub mod BucketTables
pub mod DecimalText
pub mod GrowingBytes
pub mod Lists
pub mod Standings
pub mod TruthValues
