-- The theory of the model.

-- Sets of flags.
pub mod SetLaws
-- A chain whose weight is bounded comes to rest.
pub mod Chain
-- Least closed and greatest backed sets of a monotone function.
pub mod Fixpoints
-- The least set of T and P is closed, and in every closed set.
pub mod LeastLaws
-- The sequence grows, and the model is the first that equals its successor.
pub mod Rounds
-- A least set filled from more than its seed.
pub mod WarmStart
-- What a scenario says, and the i-th digit.
pub mod ScenarioLaws
-- The fields of a program's dual, looked up.
pub mod Fields
-- Where the folds of a literal hold.
pub mod FoldsHold
-- Falsity from the dual is falsity in the definition.
pub mod FalsityLaws
-- Falsity of two small programs, computed.
pub mod FalsityExamples
-- Unfounded sets are false.
pub mod Rings
-- The model's bytes, and what they tell.
pub mod ByteLaws
-- A rule that supports its head.
pub mod Support
-- A least set by parts.
pub mod LeastParts
-- u never holds and never fails.
pub mod UndefinedLaws
-- What is true has a false conjugate.
pub mod Coherence
