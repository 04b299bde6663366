-- Card 4 of document 02, rules typed as text.

-- The tokens of a text.
pub mod Tokens
-- The lines: which tokens a line's form allows, and what it says.
pub mod Lines
-- The program that the lines type.
pub mod Typed
-- The file's own checks of it, and what importing comes to.
pub mod Importing
-- What has to unfold for an import to be computed.
pub mod Computing
-- The code's answers in the terms of these.
pub mod Told
-- A program as a text.
pub mod Printing
-- The automaton of a line as the code runs it, without its literals.
pub mod Briefly
-- What reading a line answers.
pub mod LineAnswers
-- The numbers of a line, as the code gathers them.
pub mod LineNumbers
