-- Texts and bytes that grow by them.
pub mod Additions
pub mod KeptTexts
pub mod QrelLines
