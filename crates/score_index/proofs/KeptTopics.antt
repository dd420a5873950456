-- What a board keeps: its topics, their lists, and rooms for more.
pub mod Boards
pub mod ListFacts
pub mod ListsByRun
pub mod Rooms
