-- Verdicts in 64 lanes.
pub mod VerdictLanes
