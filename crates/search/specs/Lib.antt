-- Document 01, "The search", over a file and a sheet.

-- Continuing: its refusals, its answer, and what is then lent back.
pub mod Searching
-- Lists of such calls.
pub mod SearchCalls
