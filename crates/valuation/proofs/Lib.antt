-- One scenario over accepted papers.

-- The bytes of the first lane are the model's.
pub mod ValueLaws
-- The first lane's verdict, rounds and bytes are the scenario's.
pub mod FirstLane
