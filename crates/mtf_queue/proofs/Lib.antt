pub mod RunComparisons
pub mod GroupMoves
pub mod GroupOrder
pub mod HolderWalks
pub mod MemberLoops
pub mod OrderedQueues
pub mod FirstRuns
pub mod GroupNumbers
