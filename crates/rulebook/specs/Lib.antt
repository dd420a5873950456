pub mod Words
pub mod Requests
pub mod Campaign
pub mod Judgements
pub mod Reports
pub mod Answers
pub mod Spelling
pub mod Histories
