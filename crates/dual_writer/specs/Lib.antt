-- Writing the dual.

-- The folds of a head, as a chain through a table.
pub mod Chains
-- An accepted file, with what was made of it.
pub mod Sources
-- What writing tells, and what the lent buffer then holds.
pub mod WrittenDual
