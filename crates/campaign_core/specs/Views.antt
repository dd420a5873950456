-- What a state tells and lends of its topics and runs.
pub mod Gradings
pub mod Groups
pub mod LendingLaws
pub mod Lendings
pub mod LentTopics
pub mod PrintedPages
pub mod Tallies
