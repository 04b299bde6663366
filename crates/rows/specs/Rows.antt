-- The rules of a program and its dual as rows of numbers, one after the other in an array, so that the passes over them read no bytes.
use Rattle.std.specs.Prelude.{◌≡◌, cond, List, [], ◌∷◌, ◌++◌, map, ℕ, zero, suc, ◌+◌, ◌*◌, ◌≤◌, ◌<◌, length, get_or, take}
use Rattle.literals.specs.Numbering.{judged}
use Rattle.literals.specs.BodyLiterals.{conjugate_number}
use Rattle.papers.specs.Program.{Rule, Program, all_rules, rule_at}
use Rattle.papers.specs.Reading.{program_in}
use Rattle.dual.specs.Table.{folds_of, has_entry}
use Rattle.dual.specs.Bytes.{filled}
use Rattle.arrays.specs.Staying.{StaysFrom}
use Rattle.rows.specs.Visits.{Visits}
use Rattle.parts.specs.Parts.{places_of, Parted}

-- ---- rows

-- A rule: its head, how many literals its body has, and these.
unfoldable pub rule_row : Rule → List ℕ
rule_row r = r.head ∷ length r.body ∷ r.body

-- Clauses: for each the bytes that its literals take, and these. The first is even, so that it is not read as a literal not(o).
unfoldable pub clauses_row : List (List ℕ) → List ℕ
clauses_row [] = []
clauses_row (clause ∷ more) = 2 * length clause ∷ (clause ++ clauses_row more)

-- The clause of a fold: the literals that its 09 field lists.
abbrev pub clause_of : Program → ℕ → List ℕ
clause_of p k = map conjugate_number (rule_at p k).body

-- The clauses of o's entry, one for each fold. Without an entry o is backed by no rule: one clause that lists nothing, so that it never holds.
unfoldable pub clauses_of : Program → ℕ → List (List ℕ)
clauses_of p o = cond (has_entry p o) (map (clause_of p) (folds_of p o)) ([] ∷ [])

-- An entry: its objective literal, how many numbers its clauses take, and these.
unfoldable pub entry_row : Program → ℕ → List ℕ
entry_row p o = o ∷ length (clauses_row (clauses_of p o)) ∷ clauses_row (clauses_of p o)

-- Those of `count` objective literals from o on.
unfoldable pub entry_rows_from : Program → ℕ → ℕ → List (List ℕ)
entry_rows_from p zero o = []
entry_rows_from p (suc count) o = entry_row p o ∷ entry_rows_from p count (o + 1)

abbrev pub rule_rows : Program → List (List ℕ)
rule_rows p = map rule_row (all_rules p)

abbrev pub entry_rows : Program → List (List ℕ)
entry_rows p = entry_rows_from p (judged p.atoms) 0

-- ---- in an array

-- Rows one after the other.
unfoldable pub joined : List (List ℕ) → List ℕ
joined [] = []
joined (row ∷ more) = row ++ joined more

-- Where each row starts; past the last the numbers stay.
pub record Starts (rows : List (List ℕ)) (before after : List ℕ) : Type 0 where
  pub at : (k : ℕ) → k < length rows → get_or after k 0 ≡ length (joined (take k rows))
  pub beyond : (k : ℕ) → length rows ≤ k → get_or after k 0 ≡ get_or before k 0

-- A row stands at a place.
pub record StandsAt (row numbers : List ℕ) (place : ℕ) : Type 0 where
  pub within : place + length row ≤ length numbers
  pub at : (i : ℕ) → i < length row → get_or numbers (place + i) 0 ≡ get_or row i 0

-- The rows stand there, each from its start on, and all of them are visited and nothing else, in parts. They ask by 2o or by 2o + 1.
pub record Stand (by : ℕ) (rows : List (List ℕ)) (numbers visits : List ℕ) : Type 0 where
  pub starts : List ℕ
  pub sized : length visits ≡ length rows
  pub each : (k : ℕ) → k < length rows → StandsAt (get_or rows k []) numbers (get_or starts k 0)
  pub visited : Visits (length rows) starts (places_of visits)
  pub parted : Parted by (length rows) numbers visits

-- Rows laid from the start of an array on, with visits to all of them; past these the numbers stay.
pub record Prepared (by : ℕ) (rows : List (List ℕ)) (before after visited visits : List ℕ) : Type 0 where
  pub written : after ≡ filled (joined rows) before
  pub stand : Stand by rows after (take (length rows) visits)
  pub stays : StaysFrom (length rows) visited visits

-- The rules of an accepted file ask by 2o, the entries of its dual by 2o + 1.
abbrev pub PreparedRules : List ℕ → List ℕ → List ℕ → List ℕ → List ℕ → Type 0
PreparedRules file = Prepared 0 (rule_rows (program_in file))

abbrev pub PreparedEntries : List ℕ → List ℕ → List ℕ → List ℕ → List ℕ → Type 0
PreparedEntries file = Prepared 1 (entry_rows (program_in file))
