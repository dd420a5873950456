-- How a request is read whose body comes in pieces.
pub mod AskStates
pub mod FoundJudgements
pub mod FoundOpenings
