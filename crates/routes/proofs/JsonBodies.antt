-- What a JSON body says.
pub mod TextMatches
pub mod Members
