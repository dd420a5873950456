-- Ranked lists: the rank of each document, and what a rank weighs.
pub mod Entries
pub mod Places
pub mod Ranks
pub mod Weights
