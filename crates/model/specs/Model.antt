-- Document 01, "The model": Definitions 2.1 and 2.2 of document 000. p is a program, s a scenario.
use Rattle.std.specs.Prelude.{Bool, true, false, not, cond, List, [], ◌∷◌, ℕ, ◌*◌, eqb, get_or}
use Rattle.literals.specs.Numbering.{explicit_conjugate, objective_number, default_negated, judged, falsum, listed}
use Rattle.papers.specs.Program.{Program, Query, all_rules}
use Rattle.papers.specs.Tests.{◌and◌, ◌or◌}
use Rattle.model.specs.Sets.{Set, has, set_of, empty, full, complement, same_set}
use Rattle.model.specs.Iteration.{iterate, first_still}
use Rattle.model.specs.Scenarios.{true_abducibles, possible_abducibles}
use Rattle.model.specs.LeastSet.{Reduct, least}

-- The conjugate of o is in the set. Falsum "has no conjugate".
unfoldable pub conjugate_in : ℕ → Set → ℕ → Bool
conjugate_in n set o = listed n o and has set (explicit_conjugate o)

-- A pair (T, F).
pub record Interpretation : Type 0 where
  pub trues : Set
  pub falses : Set

unfoldable pub same_interpretation : Interpretation → Interpretation → Bool
same_interpretation i j = same_set i.trues j.trues and same_set i.falses j.falses

module _ (p : Program) (s : ℕ) where
  -- "The true abducible literals and every head whose body has its objective literals in T(j+1) and its not(o) with o in F(j)." Card 5: u "never
  -- holds".
  unfoldable pub true_reduct : Set → Reduct
  true_reduct falses = record { seed = true_abducibles p s; allowed = full (judged p.atoms); negated = falses; undefined = false }

  -- "Each objective literal o whose conjugate is not in T(j) and which is a true or undefined abducible literal, or heads a rule whose
  -- objective literals are in P(j+1) and whose not(g) have g outside T(j)." Card 5: u "never fails": "in P it blocks no rule".
  unfoldable pub possible_reduct : Set → Reduct
  possible_reduct trues = record {
    seed = possible_abducibles p s;
    allowed = set_of (judged p.atoms) (λ o. not (conjugate_in p.atoms trues o));
    negated = complement (judged p.atoms) trues;
    undefined = true;
  }

  -- "T(j+1) is the least set holding" these, by F(j).
  unfoldable pub true_set : Set → Set
  true_set falses = least (judged p.atoms) (all_rules p) (true_reduct falses)

  -- "P(j+1) is the least set holding" those, by T(j).
  unfoldable pub possible_set : Set → Set
  possible_set trues = least (judged p.atoms) (all_rules p) (possible_reduct trues)

  -- "F(j+1) is all judged literals outside P(j+1)."
  unfoldable pub false_set : Set → Set
  false_set trues = complement (judged p.atoms) (possible_set trues)

  -- (T(j+1), F(j+1)) from (T(j), F(j)): the successor of any pair.
  unfoldable pub successor : Interpretation → Interpretation
  successor j = record { trues = true_set j.falses; falses = false_set j.trues }

  -- "J0 = (T0, F0), both empty."
  unfoldable pub start : Interpretation
  start = record { trues = empty (judged p.atoms); falses = empty (judged p.atoms) }

  -- Jj = (Tj, Fj).
  unfoldable pub interpretation_at : ℕ → Interpretation
  interpretation_at j = iterate j successor start

  -- "The model is the first (Tj, Fj) equal to its successor; j is its round count, at most 2N."
  unfoldable pub rounds : ℕ
  rounds = first_still same_interpretation successor (2 * judged p.atoms) start

  unfoldable pub model : Interpretation
  model = interpretation_at rounds

-- "0 undefined, 1 true, 2 false, 3 both."
unfoldable pub value_byte : Bool → Bool → ℕ
value_byte true true = 3
value_byte true false = 1
value_byte false true = 2
value_byte false false = 0

-- The byte of each judged literal.
unfoldable pub value_bytes : Set → Set → List ℕ
value_bytes [] falses = []
value_bytes (t ∷ trues) [] = []
value_bytes (t ∷ trues) (f ∷ falses) = value_byte t f ∷ value_bytes trues falses

-- "The first N bytes of the model buffer."
unfoldable pub model_bytes : Program → ℕ → List ℕ
model_bytes p s = let m = model p s in value_bytes m.trues m.falses

-- "o: byte 1 or 3; not(o): byte 2 or 3."
unfoldable pub query_literal_holds : List ℕ → ℕ → Bool
query_literal_holds bytes l =
    let byte = get_or bytes (objective_number l) 0 in
    eqb byte 3 or eqb byte (cond (default_negated l) 2 1)

-- "Each query literal holds."
unfoldable pub query_holds : List ℕ → Query → Bool
query_holds bytes [] = true
query_holds bytes (l ∷ more) = query_literal_holds bytes l and query_holds bytes more

-- Card 3: "any model byte 3".
unfoldable pub contradictory : List ℕ → Bool
contradictory [] = false
contradictory (byte ∷ more) = eqb byte 3 or contradictory more

-- By a model's bytes.
unfoldable pub explains_by : ℕ → List ℕ → Query → Bool
explains_by n bytes q = eqb (get_or bytes (falsum n) 0) 2 and query_holds bytes q and not (contradictory bytes)

-- "A scenario is an explanation exactly if falsum's byte is 2 and each query literal holds." Card 3: "From now on a scenario with any
-- model byte 3 is no explanation."
unfoldable pub explains : Program → Query → ℕ → Bool
explains p q s = explains_by p.atoms (model_bytes p s) q
