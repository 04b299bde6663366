-- The steps of a call as code makes them.

-- What a step does, and the steps of up to 64 scenarios.
pub mod Stepping
-- Which of 64 scenarios contain found entries.
pub mod Containing
