-- The digits of 64 scenarios.

-- The power of 3 at which a digit stands.
pub mod Powers
-- The lanes of a digit, run by run.
mod DigitLaws
-- The first words of a row cleared.
mod ClearedWords
-- The words of the abducible literals.
mod SeedLaws
