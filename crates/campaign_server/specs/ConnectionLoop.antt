-- The loop of a connection: pieces are read, and one request after another is answered.
pub mod FedRequests
pub mod LoopParts
pub mod Pieces
pub mod RequestAnswers
