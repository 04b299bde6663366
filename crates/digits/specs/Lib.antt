-- The digits of 64 scenarios and their abducible literals, as words.
pub mod Digits
