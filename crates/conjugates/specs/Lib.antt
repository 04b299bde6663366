-- What falsum, and every number past it, has none of: atom, conjugates, literals.
pub mod Conjugates
