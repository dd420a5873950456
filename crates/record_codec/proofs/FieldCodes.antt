-- What is read of an entry is spelled so, and what is spelled so is read again.
pub mod Codes
pub mod EntryCodes
pub mod ListCodes
pub mod TextCodes
