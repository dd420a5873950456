-- Decimals: their values, their digits and their texts.
pub mod AlignedDigits
pub mod Decimal
pub mod DecimalText
pub mod Significands
