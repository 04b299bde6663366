-- Document 000, section 2.1: the two conjugates, by the four forms of a literal.
pub mod Section21
-- Document 01, "Numberings": the four of them and the conversions.
pub mod Numbering
-- Literals of bodies: a number, or the constant u.
pub mod BodyLiterals
-- The conjugates by the parity of a number, which the laws compare with those by forms.
pub mod Parity
-- What has to unfold for a conjugate's number to be computed.
pub mod ComputingConjugates
