-- `reading::file::read_run` meets its contract.
use mathlib.Core.Path.{◌≡◌}
use mathlib.Core.List.{List}
use Prim.Native.Nat.{ℕ, ◌≤◌, ◌-◌}
use lib.ListN.{length}
use Rattle.papers.specs.Field.{numbers}
use Rattle.papers.specs.Reading.{read_run}
use Rattle.papers.specs.Answers.{run_of}
use Rattle.papers.specs.Told.{read_told}
use Rattle.reading.proofs.file.read_run.Given as goal

-- Where the loop stands: what is read from the start on is what is read from here on, after those counted.
pub record Reached (file abducibles : List ℕ) (tag atoms limit from next count : ℕ) : Type 0 where
  pub within : next ≤ length file
  pub few : count ≤ limit
  pub same : read_told (run_of 0) (read_run tag atoms (numbers abducibles) limit from file)
      ≡ read_told (run_of count) (read_run tag atoms (numbers abducibles) (limit - count) next file)

abbrev pub invariant-loop-place : goal.invariant-loop-place
invariant-loop-place l = Reached l.file l.abducibles l.tag l.atoms l.limit l.from l.run.next l.run.count

abbrev pub decreases-loop-place : goal.decreases-loop-place
decreases-loop-place l = l.limit - l.run.count
