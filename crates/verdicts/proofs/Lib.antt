-- Verdicts in 64 lanes.

-- The lanes that explain, by their models.
pub mod VerdictLaws
-- Papers that stand in their bytes, decoded.
pub mod PapersDecoded
