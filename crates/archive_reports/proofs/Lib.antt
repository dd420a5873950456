pub mod Evenness
pub mod WrittenRecords
pub mod PairLaws
pub mod ReadBack
pub mod SortedReleases
