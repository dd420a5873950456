pub mod Comparisons
pub mod PairCounts
pub mod Exports
pub mod Histories
pub mod Orders
