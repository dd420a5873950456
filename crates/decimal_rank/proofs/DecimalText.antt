-- A score's text: its digits, its parts, its value, and the canonical text of a value.
pub mod Canonical
pub mod Cuts
pub mod Digits
pub mod ReadDigits
pub mod ScoreTexts
pub mod Scores
pub mod Shifts
