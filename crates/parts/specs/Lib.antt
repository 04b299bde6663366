-- Parts of the visits to rows.

-- What can be settled for itself.
pub mod Parts
-- How far rows ask among visits.
pub mod Reaches
