-- Laws of parts.

-- Visits, and the parts that they are marked with.
pub mod MarkedParts
-- How far rows ask, and the marks that are set by it.
pub mod ReachLaws
