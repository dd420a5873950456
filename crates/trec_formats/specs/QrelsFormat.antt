-- The qrels format, as it is read and as it is written.
pub mod Qrels
pub mod QrelsText
