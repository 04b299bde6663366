-- Card 1 of document 02, "Faults already excluded on the phone", over any problem.

-- The masks: tests 15 and 16, and which scenarios agree with them.
pub mod Masks
-- The problem of a search with held faults.
pub mod HeldProblem
-- The record that carries the masks, test 14 of it, and a call.
pub mod HeldCalls
-- What has to unfold for a search with held faults to be computed.
pub mod ComputingHeld
