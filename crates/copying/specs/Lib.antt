-- Numbers laid in an array.
pub mod Laid
