-- Falsity from the dual on two small programs, by computing.
-- Assumes nothing.
use mathlib.Core.Path.{◌≡◌, refl}
use mathlib.Core.Bool.{true, false}
use mathlib.Core.List.{[], ◌∷◌}
use Rattle.papers.specs.Program.{Program}
use Rattle.dual.specs.Table.{literal, dual}
use Rattle.model.specs.Sets.{Set, empty}
use Rattle.model.specs.Iteration.{iterate}
use Rattle.model.specs.Model.{model_bytes, rounds}
use Rattle.model.specs.Falsity.{backed_set, greatest}
use Rattle.model.specs.ComputingModels.{falsity}

-- ---- a ring of two, p :- q; q :- p: it fails, because falsity is the greatest set

abbrev pub two : Program
two = record {
  atoms = 2;
  abducibles = [];
  rules = record { head = 0; body = 4 ∷ [] } ∷ record { head = 2; body = 0 ∷ [] } ∷ [];
  integrity = [];
}

abbrev pub ring_of_two : Set
ring_of_two = true ∷ false ∷ true ∷ false ∷ false ∷ []

-- From the dual all is false, the ring too,
pub two_greatest : greatest two 0 (dual two) (empty 5) ≡ true ∷ true ∷ true ∷ true ∷ true ∷ []
unfolding falsity
two_greatest = refl

-- and so in the model. Both fail, in the first round; the second changes nothing.
pub two_model : model_bytes two 0 ≡ 2 ∷ 2 ∷ 2 ∷ 2 ∷ 2 ∷ []
unfolding falsity
two_model = refl

pub two_rounds : rounds two 0 ≡ 1
unfolding falsity
two_rounds = refl

-- From the empty set up, the same step never reaches p and q: falsity is no least set.
pub two_least : iterate 5 (backed_set two 0 (dual two) (empty 5)) (empty 5) ≡ false ∷ true ∷ false ∷ true ∷ true ∷ []
unfolding falsity
two_least = refl

pub two_least_rests : backed_set two 0 (dual two) (empty 5) (false ∷ true ∷ false ∷ true ∷ true ∷ []) ≡ false ∷ true ∷ false ∷ true ∷ true ∷ []
unfolding falsity
two_least_rests = refl

-- ---- a and -a, both facts: each is false because its conjugate is true

abbrev both : Program
both = record {
  atoms = 1;
  abducibles = [];
  rules = record { head = 0; body = [] } ∷ record { head = 1; body = [] } ∷ [];
  integrity = [];
}

-- Neither has a field in the dual: nothing else backs them.
pub both_dual : dual both ≡ literal 2 [] ∷ []
unfolding falsity
both_dual = refl

pub both_greatest : greatest both 0 (dual both) (true ∷ true ∷ false ∷ []) ≡ true ∷ true ∷ true ∷ []
unfolding falsity
both_greatest = refl

pub both_model : model_bytes both 0 ≡ 3 ∷ 3 ∷ 2 ∷ []
unfolding falsity
both_model = refl
