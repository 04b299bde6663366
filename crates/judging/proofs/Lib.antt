-- Judging from its parts.

-- A law for each of its answers.
pub mod JudgingLaws
-- What is told of a judgement fixes the answer.
pub mod JudgedTold
