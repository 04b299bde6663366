-- Document 01, "The desk program": the line of an explanation.
pub mod FoundLine
