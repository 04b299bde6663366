-- Rules and dual as rows of numbers.

-- The order in which rows are visited.
pub mod Visits
-- The rows, one after the other in an array.
pub mod Rows
-- What stands in the bytes of a dual.
pub mod DualBytes
