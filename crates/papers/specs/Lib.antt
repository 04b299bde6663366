-- Document 01, "The file and the sheet".

-- "And" and "or" of tests, for all definitions.
pub mod Tests
-- What a file and a sheet say, without bytes.
pub mod Program
-- Accepted or refused, and the fixed order of checks.
pub mod Outcome
-- One field: tag, length, content.
pub mod Field
-- The tests of a field's content.
pub mod Content
-- The readers of both papers, field by field.
pub mod Reading
-- The bytes of a program and of a query.
pub mod Encoding
-- All of document 01's limits.
pub mod Valid
-- What the functions that read answer.
pub mod Answers
-- Every answer in document 01's numbers and values.
pub mod Told
-- Where the rules stand in a file, by fold number.
pub mod Places
-- What has to unfold for a paper to be computed.
pub mod ComputingPapers
