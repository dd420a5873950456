pub mod Disks
pub mod Calls
pub mod MemoryDisks
pub mod Syncs
