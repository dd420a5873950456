mod Conversations
mod OwnMessages
mod Counts
mod FoundedBooks
mod TextParts
mod Ranges
mod VisibleTexts
