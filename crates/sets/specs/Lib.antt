-- Sets of 64 lanes, written into lent rows.
pub mod Writing
