-- The texts of answers, and how long they are.
pub mod AnswerSizes
pub mod ByteParts
