-- Held faults.

-- What agreeing reads as.
pub mod AgreesLaws
-- Tests 15 and 16 by words.
mod MaskWords
-- Test 14 by its record and its masks.
pub mod SearchTests
-- What a search with held faults explains and costs, and its calls.
pub mod HeldLaws
