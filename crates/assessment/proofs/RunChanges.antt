-- Runs that wait, enter topic by topic, and are withdrawn.
pub mod EnteredRuns
pub mod RunSteps
pub mod WaitingChanges
pub mod WaitingSteps
