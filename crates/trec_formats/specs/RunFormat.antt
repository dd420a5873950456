-- The run format, how a run is read, and its ranked lists.
pub mod Counts
pub mod Groups
pub mod LineViews
pub mod Lists
pub mod PackedRuns
pub mod RunFields
pub mod RunStates
pub mod Runs
