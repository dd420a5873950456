pub mod FrontRequests
pub mod FrontLaws
pub mod HeadLengths
pub mod MessageFronts
pub mod PieceLaws
pub mod ReadingLaws
pub mod HeadSearches
