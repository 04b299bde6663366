-- The abstract syntax of the two papers: what a file and a sheet say, without bytes.
use Rattle.std.specs.Prelude.{List, [], ◌++◌, map, ℕ, get_or}
use Rattle.literals.specs.Numbering.{falsum}

-- A rule: its head, an objective literal, and its body literals, by the numbers that stand in the file (`body_literal` says what each is).
pub record Rule : Type 0 where
  pub head : ℕ
  pub body : List ℕ

-- A rule file. An integrity rule is its body: its head is falsum.
pub record Program : Type 0 where
  pub atoms : ℕ
  pub abducibles : List ℕ
  pub rules : List Rule
  pub integrity : List (List ℕ)

-- A query sheet is a list of literals.
abbrev pub Query : Type 0
Query = List ℕ

-- An integrity rule as a rule: its head is falsum, 2n.
abbrev pub denial : ℕ → List ℕ → Rule
denial n body = record { head = falsum n; body = body }

-- "Rules have fold numbers from 0 in file order; integrity rules go on from there": a fold number is an index here.
unfoldable pub all_rules : Program → List Rule
all_rules p = p.rules ++ map (denial p.atoms) p.integrity

-- What stands past the last rule.
abbrev pub no_rule : Rule
no_rule = record { head = 0; body = [] }

-- The rule with this fold number.
abbrev pub rule_at : Program → ℕ → Rule
rule_at p fold = get_or (all_rules p) fold no_rule
