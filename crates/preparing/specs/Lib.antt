-- What preparing a call takes and leaves.
pub mod Preparing
