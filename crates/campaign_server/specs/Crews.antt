-- The workers of a server, the acceptor that they share, and their links' records.
pub mod Acceptors
pub mod Records
pub mod Workers
