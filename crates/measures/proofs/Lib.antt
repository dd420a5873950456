pub mod Cutoffs
pub mod RelevantSum
pub mod PrecisionSum
pub mod PreferenceSum
pub mod Places
pub mod MeasureRows
pub mod ValueLines
pub mod RunningSums
