-- A search that begins.

-- It has masks that pass 15 and 16, and the fresh record.
pub mod FreshLaws
-- What is told of it fixes the answer.
pub mod BegunTold
