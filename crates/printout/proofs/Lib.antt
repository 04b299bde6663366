-- The desk program's search and text.

-- The problem of accepted papers.
mod PaperLaws
-- One call, from where those before it stand.
mod DeskCalls
-- One turn: it is finished, or nearer to 3^k.
mod TurnLaws
-- The text: its lines, and its length.
mod TextLaws
-- Document 01's own example, computed.
pub mod DeskExample
