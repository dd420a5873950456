pub mod Tallies
pub mod Crowds
