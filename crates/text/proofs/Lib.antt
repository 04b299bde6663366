-- ---- laws of the definitions: tokens

-- One law for each answer about a token, over plain variables.
pub mod TokenLaws
pub mod WordLaws
-- The tokens of a text are the next token again and again; where each lies, and that its number is small.
pub mod Stepping
-- ---- lines
-- What was accepted on the way to an acceptance.
pub mod Readings
-- The automaton that the code runs is the automaton, and what it holds of a line is what the line says, briefly.
pub mod BriefLaws
-- The numbers of a line, token by token.
pub mod Gathering
-- What is printed is read.
pub mod Printed
-- ---- the typed program
-- Its atoms are below its atom count, so of the file's checks only those of 3, 8 and 9 can fail.
pub mod Fitting
-- ---- the theorems
-- Reading back: an imported text's program is valid, and its file is read as that program.
pub mod ReadBack
-- Round trip: a valid program without u has a text that imports as it, if its atom count is the one that a text gives.
pub mod RoundTrip
-- Spacing: what a text is accepted as depends on its tokens alone.
pub mod Spacing
-- Which numbers: 3, 8, 9, 17 and 18 refuse a text, and no other.
pub mod Refusals
-- Agreement with `read_file`: what the checks of a typed program refuse, `read_file` refuses by the same number.
pub mod Agreed
-- ---- what the passes use
-- Importing as code that goes by passes meets it, and how many abducibles there are.
pub mod Passes
-- ---- as the code meets it
-- One token of a line for `read_token`, and the loop of `read_line`.
pub mod LineLaws
-- The loop of `numbers_in`.
pub mod GatheredLines
