-- `rows::entries::decode_folds` meets its contract. The loop's invariant: the clauses of the first folds are written, and the others' fields stand at
-- the place, for whichever objective literal has these folds there.
use mathlib.Core.Path.{◌≡◌}
use mathlib.Core.List.{List}
use Prim.Native.Nat.{ℕ, ◌+◌, ◌≤◌}
use lib.ListN.{length}
use Rattle.papers.specs.Program.{Program}
use Rattle.papers.specs.Reading.{program_in}
use Rattle.dual.specs.Table.{folds_of}
use Rattle.rows.specs.Rows.{clauses_row, clauses_of}
use Rattle.rows.specs.DualBytes.{FoldsAt}
use Rattle.rows.proofs.FoldRows.{FoldsTo}
use Rattle.rows.proofs.entries.decode_folds.Given as goal

-- An objective literal has these folds at the place, and there is room for its clauses.
pub record Given (p : Program) (bytes : List ℕ) (o place folds at : ℕ) (numbers : List ℕ) : Type 0 where
  pub stand : FoldsAt p bytes o 0 place
  pub counted : folds ≡ length (folds_of p o)
  pub room : at + length (clauses_row (clauses_of p o)) ≤ length numbers

abbrev pub invariant-loop : goal.invariant-loop
invariant-loop l =
    (o : ℕ)
    → Given (program_in l.file) l.dual o l.fn.from.place l.folds l.fn.from.at l.initial.numbers
    → FoldsTo (program_in l.file) l.dual o l.fn.from.at l.initial.numbers l.counter l.reached.place l.reached.at l.numbers
