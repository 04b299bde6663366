-- Document 01, "Reference calls".

-- Their programs and bytes.
pub mod Programs
-- The texts of Card 4, and what they type.
pub mod Texts
-- What has to unfold to compute them.
pub mod ComputingCalls
