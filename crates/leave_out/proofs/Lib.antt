pub mod Agreements
pub mod Elements
pub mod Extensions
pub mod Reductions
pub mod LiveRuns
pub mod TopicsById
pub mod WorkedRows
