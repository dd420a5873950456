-- The run format, read as a whole and piece by piece.
pub mod KeptFields
pub mod LineNumbers
pub mod PackedTexts
pub mod RunEnds
pub mod RunFeeds
pub mod RunFormat
pub mod RunLines
pub mod RunPieces
pub mod RunSteps
pub mod WholeLines
