-- The steps of a call as the loops meet them.

-- The digits of a part, and the entries of a list.
mod PartLoops
-- The same for 64 scenarios at once.
mod ContainingLaws
-- What a step is decided to do.
mod Decisions
-- What it leaves, and the steps of up to 64 scenarios.
pub mod BatchSteps
