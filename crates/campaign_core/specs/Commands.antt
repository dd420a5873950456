-- What a command comes to, what it changes and what that costs, and how its entry is entered again.
pub mod Changes
pub mod Costs
pub mod Decisions
pub mod Replays
