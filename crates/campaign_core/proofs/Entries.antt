-- What one more entry makes of the history, and of what is known of it.
pub mod Runs
pub mod CommandAnswers
pub mod CommitCosts
pub mod Commits
pub mod EnteredAgain
pub mod EntryLaws
pub mod Preparations
pub mod Judgements
pub mod HistoryGrowth
pub mod Legality
pub mod PhaseSteps
pub mod PlainEntries
