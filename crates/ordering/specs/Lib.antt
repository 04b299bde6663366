-- An order that was tested, and what is written from an array's start on.
pub mod Orders
