-- A call over accepted papers: its problem, and what is told of it.
pub mod Trying
