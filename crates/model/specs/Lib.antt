-- Document 01, "Scenarios and the model".

-- Sets of judged literals.
pub mod Sets
-- A function applied until it changes nothing.
pub mod Iteration
-- What a scenario says of the abducible literals.
pub mod Scenarios
-- One operator for T and P.
pub mod LeastSet
-- The model and its rounds: Definitions 2.1 and 2.2 of document 000.
pub mod Model
-- Falsity from the dual.
pub mod Falsity
-- What has to unfold for a model to be computed.
pub mod ComputingModels
