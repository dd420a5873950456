pub mod AscendingTexts
pub mod BundleCodes
pub mod FieldCodes
pub mod DistinctTexts
pub mod EntryParts
pub mod ItemLoops
pub mod ShortTexts
