-- Laws of rows.

-- One after the other: how many, and how long.
pub mod RowLaws
-- Decoded one by one.
mod DecodedLaws
-- What stands in the bytes of a dual, entry by entry.
pub mod EntryBytes
-- The clauses of an entry.
mod FoldRows
-- An entry's row, and what stands after it.
mod EntryRows
-- A row that stands at a place.
pub mod StandLaws
