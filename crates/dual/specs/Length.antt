-- The length of a program's dual, in closed form.
use Rattle.std.specs.Prelude.{cond, List, [], ◌∷◌, ℕ, zero, suc, ◌+◌, ◌*◌, eqb, length}
use Rattle.literals.specs.Numbering.{judged}
use Rattle.papers.specs.Program.{Rule, Program, all_rules}
use Rattle.dual.specs.Table.{has_entry}

-- A rule's bytes: its fold number in its literal's field, and its own field with heading, fold number and literals.
unfoldable pub rule_length : Rule → ℕ
rule_length r = 7 + 2 * length r.body

-- Those of the rules with head o.
unfoldable pub rules_length : List Rule → ℕ → ℕ
rules_length [] o = 0
rules_length (r ∷ more) o = let rest = rules_length more o in cond (eqb r.head o) (rule_length r + rest) rest

-- Those of the entries of `count` objective literals from o on: each has a heading and its number.
unfoldable pub entries_length : Program → ℕ → ℕ → ℕ
entries_length p zero o = 0
entries_length p (suc count) o = cond (has_entry p o) (5 + rules_length (all_rules p) o) 0 + entries_length p count (o + 1)

-- The end is a heading alone.
unfoldable pub dual_length : Program → ℕ
dual_length p = entries_length p (judged p.atoms) 0 + 3
