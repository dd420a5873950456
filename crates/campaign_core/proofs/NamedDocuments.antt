-- The document that an assessor is told to grade, by numbers and by the rules.
pub mod LentQueues
pub mod LiveLeases
pub mod NamedDocs
pub mod OpenDocs
pub mod NumberedHolders
pub mod RunOrder
