-- A call over accepted papers.

-- What judging tells of 64 scenarios.
pub mod JudgedLanes
-- Steps in batches.
pub mod Batches
-- Scenarios that are passed over.
pub mod PassedOver
-- How a call begins, and what it reports.
pub mod CallReports
