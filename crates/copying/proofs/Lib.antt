-- Laws of numbers laid in an array.

-- None, one more, and one part more.
pub mod LaidLaws
-- Copied from bytes, one by one.
mod CopyLaws
