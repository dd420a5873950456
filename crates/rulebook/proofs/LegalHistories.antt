-- What holds of each list of entries that can come about.
pub mod AddedEntries
pub mod GrantedLeases
pub mod HoldingRuns
pub mod JournalSizes
pub mod LeaseEntries
pub mod LegalWalk
pub mod LiveRuns
pub mod Outcomes
pub mod PlainReplies
pub mod RisingMoments
pub mod SpelledEntries
pub mod UsedNumbers
