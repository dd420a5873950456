-- What is said on a connection, over the entries of a campaign.
pub mod Chains
pub mod Stories
pub mod Talks
