-- What a literal's conjugate says of its word.
mod BackingLaws
