-- Bytes that grow by one part after another.
pub mod ByteParts
pub mod Growth
