-- What stays of an array whose first numbers may change.
pub mod Staying
