-- Lanes that agree.

-- The lanes kept fault by fault, and the rounds of those that agree lane by lane, as the code meets them.
mod AgreeingLaws
-- The lanes of a search with held faults.
pub mod HeldLanes
-- Runs of scenarios that do not agree, fault by fault.
mod RunLaws
