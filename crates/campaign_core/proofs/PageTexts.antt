-- What pages and scores print, by what is kept and by the rules.
pub mod BestRuns
pub mod Disagreements
pub mod KnownRuns
pub mod LentBoards
pub mod LentTopics
pub mod PageTopics
pub mod PoolTexts
pub mod Progress
pub mod QrelsLines
pub mod RunCells
pub mod TopicCells
