-- Where the rules stand in a file, by fold number.
use Rattle.std.specs.Prelude.{List, ◌++◌, map, ℕ, ◌+◌, ◌*◌, ◌<◌, ◌≤◌, ◌≡◌, length, get_or, take}
use Rattle.papers.specs.Program.{Rule, Program, all_rules}
use Rattle.papers.specs.declared.Contents.{Contents}
use Rattle.papers.specs.Field.{numbers}
use Rattle.papers.specs.Reading.{read_file, program_in}
use Rattle.papers.specs.Encoding.{rule_numbers}
use Rattle.papers.specs.Answers.{fields_length, rules_place, contents_of}
use Rattle.papers.specs.Told.{tells, read_told}

-- "Rules have fold numbers from 0 in file order; integrity rules go on from there": the numbers of each fold's field, 04 or 05.
unfoldable pub field_numbers : Program → List (List ℕ)
field_numbers p = map rule_numbers p.rules ++ p.integrity

-- "The place, which is the field's first byte", of the field with this fold number. One after the last fold it is the place of 7F.
unfoldable pub fold_place : Program → ℕ → ℕ
fold_place p i = rules_place p + fields_length (take i (field_numbers p))

-- An accepted file that is walked by fold number: what its reading answered, and the place of each fold's field; 0 past the last fold.
pub record Walked (bytes : List ℕ) (contents : Contents) (places : List ℕ) : Type 0 where
  pub answer : read_told contents_of (read_file bytes) ≡ tells contents
  pub at : (fold : ℕ) → fold < length (all_rules (program_in bytes)) → get_or places fold 0 ≡ fold_place (program_in bytes) fold
  pub beyond : (i : ℕ) → length (all_rules (program_in bytes)) ≤ i → get_or places i 0 ≡ 0

-- These bytes are the literals of a body, two for each.
pub record BodyOf (r : Rule) (bytes : List ℕ) : Type 0 where
  pub literals : numbers bytes ≡ r.body
  pub size : length bytes ≡ 2 * length r.body
