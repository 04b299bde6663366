-- Document 01, "The desk program".

-- How its search goes on.
pub mod DeskSearch
-- What it prints.
pub mod Output
