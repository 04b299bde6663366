-- The lanes in which two rows differ.
mod ChangeLaws
-- Words that are written by a function.
pub mod WritingLaws
