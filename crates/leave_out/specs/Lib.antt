pub mod Agreement
pub mod ReducedJudgements
pub mod Pairs
pub mod Reuse
pub mod TopicOrder
