-- A search that begins.
pub mod Beginning
