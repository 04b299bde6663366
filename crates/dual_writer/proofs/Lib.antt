-- ---- the dual as the loops that measure and write it meet it

-- The chains of folds.
mod ChainLaws
-- The two kinds of field.
mod WritingLaws
-- The length of an entry.
mod EntryLaws
-- An entry.
mod EntryWriting
-- All entries, and the end.
mod TableWriting
-- ---- for callers
-- What is told fixes the answer.
pub mod WrittenTold
-- What is known once both papers are read and the dual is written.
pub mod BothPapers
