-- The dual table: Definition 3.1 of document 000, as document 01 writes it.
use Rattle.std.specs.Prelude.{Bool, true, false, not, ◌&&◌, cond, List, [], ◌∷◌, ◌++◌, map, ℕ, zero, suc, ◌+◌, eqb, get_or}
use Rattle.literals.specs.Numbering.{atom_number, judged}
use Rattle.literals.specs.BodyLiterals.{conjugate_number}
use Rattle.papers.specs.Program.{Rule, Program, all_rules, no_rule}
use Rattle.papers.specs.Content.{is_among}

-- A field of the table, without its tag's bytes.
pub data Field : Type 0 where
  -- 08, part (a): not(o) holds where each of these folds does.
  literal : ℕ → List ℕ → Field
  -- 09, part (b): the fold holds where one of these literals does.
  fold : ℕ → List ℕ → Field

-- "The fold numbers of its rules, rising", of the rules from fold number k on.
unfoldable pub folds_from : ℕ → List Rule → ℕ → List ℕ
folds_from k [] o = []
folds_from k (r ∷ more) o = let rest = folds_from (k + 1) more o in cond (eqb r.head o) (k ∷ rest) rest

unfoldable pub folds_of : Program → ℕ → List ℕ
folds_of p o = folds_from 0 (all_rules p) o

-- "The head of an empty-body rule": a literal with a fact has no rule for its negation.
unfoldable pub is_empty : List ℕ → Bool
is_empty [] = true
is_empty (l ∷ more) = false

unfoldable pub is_fact : List Rule → ℕ → Bool
is_fact [] o = false
is_fact (r ∷ more) o = let rest = is_fact more o in cond (eqb r.head o) (cond (is_empty r.body) true rest) rest

-- "Neither abducible (nor its negation) nor the head of an empty-body rule." Part (c) asks besides that not(o) occurs in the
-- program where o has no rule; here "any of these without rules gets 08 without folds, whether or not not(o) occurs in the file".
unfoldable pub has_entry : Program → ℕ → Bool
has_entry p o = not (is_among p.abducibles (atom_number o)) && not (is_fact (all_rules p) o)

-- "09 with the fold number and the default conjugate (not added or removed) of each body literal in order." Card 5: of u
-- it is u.
unfoldable pub fold_field : List Rule → ℕ → Field
fold_field rules k = fold k (map conjugate_number (get_or rules k no_rule).body)

-- "08 with its number and the fold numbers of its rules, rising; then for each of these rules 09."
unfoldable pub entry : Program → ℕ → List Field
entry p o = literal o (folds_of p o) ∷ map (fold_field (all_rules p)) (folds_of p o)

abbrev pub entry_if_any : Program → ℕ → List Field
entry_if_any p o = cond (has_entry p o) (entry p o) []

-- The entries of `count` objective literals from o on.
unfoldable pub entries_from : Program → ℕ → ℕ → List Field
entries_from p zero o = []
entries_from p (suc count) o = entry_if_any p o ++ entries_from p count (o + 1)

-- "For each objective literal rising, falsum last": 0 to 2n. Part (d), the coherence rules, is implied.
unfoldable pub dual : Program → List Field
dual p = entries_from p (judged p.atoms) 0
