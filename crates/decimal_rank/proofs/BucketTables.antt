-- Items in the buckets of a table: one more item, and a walk through a bucket.
pub mod AddedItems
pub mod LinkedItems
pub mod Walks
