-- Opening a book: its records become entries, or why it isn't opened.
pub mod OpenJournals
pub mod OpeningLaws
pub mod Openings
pub mod Replays
