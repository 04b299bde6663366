-- Document 01, "Scenarios": what a scenario says of the abducible literals. This narrows Definition 2.6 of document 000.
-- p is a program, s a scenario, o an objective literal.
use Rattle.std.specs.Prelude.{Bool, cond, List, [], ◌∷◌, ℕ, ◌/◌, ◌%◌, eqb}
use Rattle.literals.specs.Numbering.{atom_number, explicitly_negated, judged}
use Rattle.papers.specs.Program.{Program}
use Rattle.papers.specs.Tests.{◌or◌}
use Rattle.model.specs.Sets.{Set, set_of}

-- "Digit i of s in base 3, lowest first, belongs to the i-th abducible": an atom's digit. One that is not abducible has none: 3.
unfoldable pub digit_of : List ℕ → ℕ → ℕ → ℕ
digit_of [] s atom = 3
digit_of (a ∷ more) s atom = let rest = digit_of more (s / 3) atom in cond (eqb a atom) (s % 3) rest

-- "1, assumed: A true"; "2, ruled out: .. -A true".
unfoldable pub true_abducible : Program → ℕ → ℕ → Bool
true_abducible p s o = let digit = digit_of p.abducibles s (atom_number o) in eqb digit (cond (explicitly_negated o) 2 1)

-- "Digit 0, open: A and -A undefined."
unfoldable pub undefined_abducible : Program → ℕ → ℕ → Bool
undefined_abducible p s o = let digit = digit_of p.abducibles s (atom_number o) in eqb digit 0

-- "1, assumed: .. -A false"; "2, ruled out: A false".
unfoldable pub false_abducible : Program → ℕ → ℕ → Bool
false_abducible p s o = let digit = digit_of p.abducibles s (atom_number o) in eqb digit (cond (explicitly_negated o) 1 2)

-- "The true abducible literals."
unfoldable pub true_abducibles : Program → ℕ → Set
true_abducibles p s = set_of (judged p.atoms) (true_abducible p s)

-- Those "true or undefined".
unfoldable pub possible_abducibles : Program → ℕ → Set
possible_abducibles p s = set_of (judged p.atoms) (λ o. true_abducible p s o or undefined_abducible p s o)
