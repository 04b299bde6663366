-- Document 01, "Reference calls", and those of document 02.

-- Example 2.1: its file, and its dual.
pub mod Example21
-- Models.
pub mod Models
-- Whole searches.
pub mod Searches
-- Whole searches with held faults.
pub mod HeldSearches
-- A contradiction is no explanation.
pub mod Contradictions
-- The four forms of a literal and their conjugates.
pub mod FourForms
-- Rules typed as text.
pub mod TypedTexts
-- The constant u.
pub mod Undefined
-- The table of the theorems.
pub mod ReferenceCalls
