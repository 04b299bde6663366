-- Document 01, "The desk program": its first and its last line, and that of a refusal.
pub mod Lines
