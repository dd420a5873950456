pub mod HeldCalls
pub mod Images
pub mod MemoryDisks
pub mod Syncs
