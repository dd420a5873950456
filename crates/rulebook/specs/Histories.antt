-- The lists of entries that can come about, and what holds of them.
pub mod Additions
pub mod Entries
pub mod Facts
pub mod Legal
pub mod Stories
