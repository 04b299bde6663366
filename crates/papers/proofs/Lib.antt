-- ---- laws of the definitions

-- Tests joined by "and" and "or".
pub mod TestLaws
-- What passed checks tell, and what was accepted on the way to an acceptance.
pub mod Checks
-- Laws of lists that the library lacks.
pub mod Lists
-- What a whole field tells.
pub mod FieldLaws
-- Two-byte numbers, read and written.
pub mod NumberLaws
-- Each test of a length or content passes exactly where document 01's limits hold.
pub mod ContentLaws
-- What an accepted run of fields tells.
pub mod RunLaws
-- What was read stands there as it would be written.
pub mod Written
-- What is accepted is valid, and is the encoding of what it was accepted as.
pub mod Accepted
-- A refusal lies in the paper that was read, and no further than its end.
pub mod Placed
-- What is encoded is read.
pub mod Encoded
-- How long the encodings are, and that two papers that say the same are the same.
pub mod Sizes
-- The rules of an accepted file by fold number: where each field stands and what it holds.
pub mod FoldLaws
-- Where each rule's head and body stand.
pub mod RuleLaws
-- ---- the same as the code meets them
-- One field: a law for each answer of `field_fault`.
pub mod FieldTests
-- The numbers of a content, one by one.
pub mod NumbersWalked
-- What `let .. else` finds of a field read.
pub mod FieldGot
-- One turn of `read_run`.
pub mod RunTurn
-- What `let .. else` finds of the other readers' answers.
pub mod ReadersGot
-- The rules, the integrity rules and the end, for `read_rules`.
pub mod RulesToEnd
-- The file, the sheet and both, for `read_file`, `read_sheet` and `read_papers`.
pub mod WholePapers
-- What is known of the program in an accepted file.
pub mod FileFacts
-- The rules of an accepted file, one by one.
pub mod FoldsWalked
-- What is known where both papers are accepted.
pub mod BothAccepted
-- ---- what is told of an answer fixes it
pub mod ToldLaws
