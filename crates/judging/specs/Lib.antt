-- Document 01, judging: its refusals, its answer, and what the lent buffers then hold.
pub mod Judging
