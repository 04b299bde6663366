-- Sets of 64 lanes closed.

-- T under the rules of a file.
pub mod Closing
-- F by the entries of a dual.
pub mod FalseWords
-- Passes over rows.
pub mod Passes
