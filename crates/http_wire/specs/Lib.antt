pub mod Answers
pub mod Fronts
pub mod Heads
pub mod Messages
pub mod Pieces
pub mod Wires
