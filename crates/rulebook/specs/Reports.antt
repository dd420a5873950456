-- What a campaign tells of its judgements and runs: pages, scores and systems.
pub mod Pages
pub mod Scores
pub mod Systems
