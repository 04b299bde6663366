-- Laws of the table.

-- All entries, falsum's last.
pub mod AllEntries
-- The bytes read back.
pub mod ReadBack
-- The closed form is the length.
pub mod Lengths
-- The longest dual.
pub mod Bound
-- The folds and facts of a head.
pub mod Folds
-- A buffer that is filled from its start.
pub mod FilledLaws
