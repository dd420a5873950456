-- The live runs and their ranked lists, by numbers.
pub mod NamedRuns
pub mod NumberedRuns
pub mod NumberedSystems
pub mod PlainRuns
pub mod RankedDocs
pub mod SoundSystems
