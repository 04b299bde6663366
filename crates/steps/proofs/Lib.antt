-- The laws of the search over any problem.

-- Part-of is an order, and reads digit by digit.
pub mod PartOfLaws
-- What it is to be minimal; every explanation contains a minimal one.
pub mod Minimality
-- The list of the minimal explanations below n.
pub mod Minimals
-- The stopping point.
pub mod Stopping
-- Sums over the numbers below n.
pub mod Sums
-- One step, case by case.
pub mod Steps
-- Many steps, in two parts.
pub mod Runs
-- The general rule, from any record that passes test 14.
pub mod General
-- `stop_from` is the stopping point in the words of document 01.
pub mod First
-- From the fresh record: the state at each position.
pub mod Canonical
-- What test 14 tells, and that whatever a search reaches passes it.
pub mod Sound
-- What any call keeps.
pub mod Keeping
-- Lists of calls: in two parts, and without the refused ones.
pub mod Calling
-- The pause theorem.
pub mod Pause
-- What calls from the fresh record reach.
pub mod Reached
-- Small searches, computed.
pub mod SearchExamples
