-- Tables that find items by a key.
pub mod BucketChains
pub mod Buckets
pub mod Searches
pub mod TextHashes
pub mod TextKeys
