mod Payloads
mod AddedEntries
mod CoreEntries
mod Founders
mod Histories
mod JournalEntries
mod OpenJournals
mod Requests
pub mod MovableBooks
