-- Decimal numbers, and text in a buffer.

-- A number in decimal.
pub mod Decimal
-- Text in a buffer, and the items of a line.
pub mod Text
-- What printing comes to.
pub mod Printing
