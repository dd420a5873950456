-- What stays known while an entry is prepared, and what its change rests on.
pub mod FittingChanges
pub mod KeptStates
pub mod ReadyEntries
