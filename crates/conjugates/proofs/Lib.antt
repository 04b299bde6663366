-- What each answer says of the number asked about.
pub mod ConjugateLaws
