-- Document 01: "From the dual, F(j+1) is the greatest set with each o in it backed by: its conjugate in T(j); a false abducible literal; or
-- an 08 field each of whose folds has a listed literal that holds (x from T(j), not(x) from the set itself)."
-- p is a program, s a scenario, `fields` those of a dual, `trues` T(j), `set` the set itself.
use Rattle.std.specs.Prelude.{Bool, true, false, cond, List, [], ◌∷◌, ℕ, eqb}
use Rattle.literals.specs.Numbering.{judged}
use Rattle.literals.specs.BodyLiterals.{body_literal}
use Rattle.papers.specs.Program.{Program}
use Rattle.dual.specs.Table.{Field, literal, fold}
use Rattle.papers.specs.Tests.{◌and◌, ◌or◌}
use Rattle.model.specs.Sets.{Set, set_of, full}
use Rattle.model.specs.Iteration.{iterate}
use Rattle.model.specs.Scenarios.{false_abducible}
use Rattle.model.specs.LeastSet.{literal_holds}
use Rattle.model.specs.Model.{conjugate_in}

-- The literals that the 09 field of fold k lists.
unfoldable pub listed_by : List Field → ℕ → List ℕ
listed_by [] k = []
listed_by (literal o folds ∷ more) k = listed_by more k
listed_by (fold j conjugates ∷ more) k = let rest = listed_by more k in cond (eqb j k) conjugates rest

-- "A listed literal that holds (x from T(j), not(x) from the set itself)." A listed u never does.
unfoldable pub some_holds : Set → Set → List ℕ → Bool
some_holds trues set [] = false
some_holds trues set (l ∷ more) = literal_holds false trues set (body_literal l) or some_holds trues set more

-- "Each of whose folds" has one.
unfoldable pub folds_hold : List Field → Set → Set → List ℕ → Bool
folds_hold fields trues set [] = true
folds_hold fields trues set (k ∷ more) = some_holds trues set (listed_by fields k) and folds_hold fields trues set more

-- Among `rest`, o has an 08 field each of whose folds has one.
unfoldable pub entry_holds : List Field → Set → Set → List Field → ℕ → Bool
entry_holds fields trues set [] o = false
entry_holds fields trues set (fold k conjugates ∷ rest) o = entry_holds fields trues set rest o
entry_holds fields trues set (literal q folds ∷ rest) o =
    let here = folds_hold fields trues set folds in
    eqb q o and here or entry_holds fields trues set rest o

-- "o .. backed by: its conjugate in T(j); a false abducible literal; or an 08 field."
unfoldable pub backed : Program → ℕ → List Field → Set → Set → ℕ → Bool
backed p s fields trues set o =
    conjugate_in p.atoms trues o or (false_abducible p s o or entry_holds fields trues set fields o)

-- One step down: what this set backs.
unfoldable pub backed_set : Program → ℕ → List Field → Set → Set → Set
backed_set p s fields trues set = set_of (judged p.atoms) (backed p s fields trues set)

-- "The greatest set": the step from the full set, N times.
unfoldable pub greatest : Program → ℕ → List Field → Set → Set
greatest p s fields trues = iterate (judged p.atoms) (backed_set p s fields trues) (full (judged p.atoms))
