-- Document 01, "The dual table".

-- Its fields: Definition 3.1 of document 000.
pub mod Table
-- Its bytes, and reading them back.
pub mod TableEncoding
-- Its length, in closed form.
pub mod Length
-- A program's dual in bytes, and a lent buffer that is filled from its start.
pub mod Bytes
