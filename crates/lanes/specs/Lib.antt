-- Sixty-four scenarios at once.

-- Bit l of word o says whether o is in the set of lane l.
pub mod Lanes
-- The word of a literal, and that of a body.
pub mod Words
