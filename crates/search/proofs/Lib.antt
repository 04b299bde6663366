-- Calls over a file and a sheet.

-- A law for each answer of continuing.
pub mod ContinueLaws
-- What is told of a call fixes its answer.
pub mod ContinuedTold
-- The pause theorem of `continue_search`.
pub mod SearchPause
-- No found scenario rests on a contradiction.
pub mod NeverContradictory
