-- What an output is told, and which calls of a memory form fail.
pub mod FailurePlans
pub mod KnownBytes
pub mod Writings
