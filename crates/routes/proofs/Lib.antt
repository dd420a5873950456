pub mod AnswerTexts
pub mod Callers
pub mod JsonBodies
pub mod PathTable
pub mod Requests
