pub mod Evaluations
pub mod Findings
pub mod Tables
