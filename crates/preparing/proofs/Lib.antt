-- Rows that are decoded, ordered and marked.
mod RowsPrepared
-- The counts of prepared papers lie within the arrays.
pub mod CountsWithin
