-- The answers that falsum, and every number past the listed ones, has none of: document 01's value for each case.
use Rattle.std.specs.Prelude.{ℕ, cond, Option, Some, None}
use Rattle.literals.specs.Numbering.{atom_number, explicit_conjugate, literal, default_negation, default_conjugate, listed, literal_listed}
use Rattle.literals.specs.declared.Atom.{Atom}
use Rattle.literals.specs.declared.Objective.{Objective}
use Rattle.literals.specs.declared.Literal.{Literal}

-- objective literals 2a and 2a+1 are of atom a; falsum is of none
abbrev pub atom_of : ℕ → ℕ → Option Atom
atom_of n o = cond (listed n o) (Some (record { 0 = atom_number o })) None

-- 2a and 2a+1 are conjugates; falsum "has no conjugate"
abbrev pub conjugate_of : ℕ → ℕ → Option Objective
conjugate_of n o = cond (listed n o) (Some (record { 0 = explicit_conjugate o })) None

-- literal 2o is objective literal o; falsum has "no literal in a file"
abbrev pub literal_of : ℕ → ℕ → Option Literal
literal_of n o = cond (listed n o) (Some (record { 0 = literal o })) None

-- literal 2o+1 is not(o); falsum has "no literal in a file"
abbrev pub default_negation_of : ℕ → ℕ → Option Literal
default_negation_of n o = cond (listed n o) (Some (record { 0 = default_negation o })) None

-- not added or removed; a number that is not below 4n is no literal
abbrev pub default_conjugate_of : ℕ → ℕ → Option Literal
default_conjugate_of n l = cond (literal_listed n l) (Some (record { 0 = default_conjugate l })) None
