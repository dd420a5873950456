-- Compaction: the records of a journal are replaced by bundles of entries.
pub mod CompactedJournals
pub mod Compactings
pub mod Packings
