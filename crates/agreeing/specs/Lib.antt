-- The scenarios that agree with the held faults.

-- Of 64, as words.
pub mod AgreeingLanes
-- Runs of those that do not.
pub mod DisagreeingRuns
