-- What holds of the elements of a list, and how many pass a test.
pub mod AllPass
pub mod PassingCounts
pub mod TextLists
