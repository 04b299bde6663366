-- Document 01, "The search", over any problem.

-- Parts of scenarios, explanations, minimal ones, the stopping point.
pub mod Explanations
-- One call: the record, the list, the single step, the report.
pub mod Continuing
-- Test 14.
pub mod Spoilt
-- A list of continue calls.
pub mod Calls
-- Demand 3.
pub mod Demand
-- What has to unfold for a search to be computed.
pub mod ComputingSearches
