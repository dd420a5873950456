-- Bundles: their numbers, tables and items, written and read.
pub mod BundleLaws
pub mod BundleSizes
pub mod BundleSteps
pub mod ItemSteps
pub mod ReadAgain
pub mod TableSteps
pub mod UsedTables
pub mod VarintGroups
