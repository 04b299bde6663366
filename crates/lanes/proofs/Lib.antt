-- Laws of lanes.

-- Bit l of words joined and negated; the set of a lane.
pub mod LaneLaws
-- A literal's word and a body's, as the code that reads them meets them.
pub mod WordLaws
