-- Rounds in 64 lanes.

-- The atoms and the abducibles of a decoded file.
pub mod DecodedLaws
-- One round, from its parts.
mod RoundLaws
-- Rounds from J0 to the models.
mod SettlingLaws
