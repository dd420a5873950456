-- Answers of small campaigns, worked out row by row.
pub mod EndedCampaign
pub mod JudgedCampaign
pub mod LateRuns
pub mod SmallCampaign
pub mod TopicLevels
