-- The folds of an objective literal, as a chain through a table of what comes next.
use Rattle.std.specs.Prelude.{List, [], ◌∷◌, ℕ, zero, suc, ◌<◌, get_or, Option, Some, None}
use Rattle.literals.specs.declared.Fold.{Fold}
use Rattle.folds.specs.declared.RuleFile.{RuleFile}
use Rattle.papers.specs.Program.{Program}
use Rattle.papers.specs.Reading.{program_in}
use Rattle.dual.specs.Table.{folds_of}
use Rattle.dual_writer.specs.declared.chains.Chains.{Chains}

-- A fold's number; where there is none, one past all of them.
abbrev pub number_from : Option Fold → ℕ
number_from None = 1280
number_from (Some fold) = fold.0

-- From a fold on, or from none, the chain has these folds, rising.
pub data Chain (next : List (Option Fold)) : Option Fold → List ℕ → Type 0 where
  ends : Chain next None []
  link : {fold : Fold} {more : List ℕ} → fold.0 < 1280 → fold.0 < number_from (get_or next fold.0 None)
      → Chain next (get_or next fold.0 None) more → Chain next (Some fold) (fold.0 ∷ more)

-- The folds that are met from one on, at most `room`.
unfoldable pub followed : ℕ → List (Option Fold) → Option Fold → List ℕ
followed zero next ahead = []
followed (suc room) next None = []
followed (suc room) next (Some fold) = fold.0 ∷ followed room next (get_or next fold.0 None)

abbrev pub folds_at : List (Option Fold) → Option Fold → List ℕ
folds_at next ahead = followed 1280 next ahead

-- Each objective literal's chain has its folds.
pub record ChainsOf (p : Program) (first next : List (Option Fold)) : Type 0 where
  pub at : (o : ℕ) → o < 513 → Chain next (get_or first o None) (folds_of p o)

-- The chains of an accepted file.
pub record Chained (file : RuleFile) (tables : Chains) : Type 0 where
  pub chains : ChainsOf (program_in file.bytes.now) tables.first tables.next
