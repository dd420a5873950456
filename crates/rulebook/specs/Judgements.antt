-- Leases, the order in which documents are judged, and what their labels come to.
pub mod Grades
pub mod Holders
pub mod JudgingOrder
pub mod LeaseEntries
pub mod Leases
