-- Links and doors in memory.
pub mod MemoryDoors
pub mod MemoryLinkFields
pub mod MemoryLinks
pub mod MemoryWritten
