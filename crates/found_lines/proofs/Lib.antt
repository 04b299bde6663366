-- The line of an explanation.

-- Its items: each assumed or ruled-out abducible.
pub mod Items
-- How long it is at most.
pub mod LineLengths
-- Lines, computed.
pub mod FoundLineExamples
