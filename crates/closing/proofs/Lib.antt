-- Passes over rows.
mod PassLaws
-- ---- T in 64 lanes

-- A rule, a pass over the rules, passes until one changes nothing.
pub mod ClosingLaws
-- The same part by part.
mod TrueParts
-- What settling the rules comes to.
mod TrueSettled
-- Rules in another order have the same least sets.
pub mod RulesVisited
-- ---- F in 64 lanes
-- The word of a clause.
mod ClauseWords
-- The word of an entry.
mod EntryWords
-- The entries that are visited, and those of a part.
mod EntriesVisited
-- An entry, a pass, passes until one changes nothing.
mod DroppedLaws
-- The same part by part.
mod FalseParts
-- What settling the entries comes to.
mod FalseSettled
-- When every part is closed, the greatest set is left.
pub mod ClosingFalse
