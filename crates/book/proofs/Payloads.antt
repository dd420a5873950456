-- Payloads: the entries that they spell, packed and unfolded.
pub mod AcceptedEntries
pub mod CompactedRecords
pub mod PackedEntries
pub mod PayloadEntries
pub mod UnfoldedPayloads
