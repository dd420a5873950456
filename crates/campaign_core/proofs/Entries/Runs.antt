-- The runs, their lists, pools and places, after one more entry.
pub mod BoardSteps
pub mod ListSteps
pub mod LiveNumbers
pub mod LiveRunLists
pub mod LiveRuns
pub mod LiveSystems
pub mod PoolSteps
pub mod RunNames
pub mod WithdrawalSteps
