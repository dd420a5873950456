pub mod Groups
pub mod QueueView
pub mod Rule
