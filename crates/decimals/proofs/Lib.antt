-- Laws of decimal numbers and of text in a buffer.

-- The digits: how many, that they read back as the number, and that none leads with a zero.
pub mod DecimalLaws
-- Text put into a buffer piece by piece.
pub mod Putting
-- Printing, one text after another.
pub mod Printing
