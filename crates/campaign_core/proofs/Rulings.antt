-- What the rulings come to, test by test, and what is so where a command is accepted.
pub mod AcceptedCommands
pub mod AcceptedEntries
pub mod CollectingRulings
pub mod KeptTopics
pub mod LabelRulings
pub mod LeaseRulings
pub mod RunRulings
pub mod TestOrder
