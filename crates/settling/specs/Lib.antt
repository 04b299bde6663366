-- Rounds in 64 lanes.
pub mod RoundLanes
pub mod DecodedFiles
