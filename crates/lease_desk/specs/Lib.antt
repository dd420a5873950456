pub mod Series
pub mod DeskView
pub mod Leases
