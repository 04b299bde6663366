-- Card 4 of document 02: importing a text, as it is answered and pass by pass.

-- What importing tells, and what the lent buffer then holds.
pub mod Imports
-- The passes over the lines of a text.
pub mod Passes
