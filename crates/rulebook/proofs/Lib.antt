pub mod Elements
pub mod Judgements
pub mod LegalHistories
pub mod WorkedRows
