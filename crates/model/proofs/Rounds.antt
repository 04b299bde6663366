-- The sequence of interpretations: it grows, so that one of the first 2N equals its successor, and the model is the first that does.
-- Assumes nothing.
use mathlib.Core.Path.{◌≡◌, refl, sym, ap, ◌∙◌}
use mathlib.Core.Bool.{not}
use mathlib.Core.Logic.{◌⊎◌, inl, inr, ⊎_elim}
use Prim.Native.Nat.{ℕ, zero, suc, ◌+◌, ◌-◌, ◌*◌, ◌≤◌, ◌<◌}
use native.Mathlib.Omega.{arith}
use native.Mathlib.Decide.{dec_lt}
use borrow.Author.Tests.{lt-ltb, le-ltb}
use lib.Dec.{T, T_not, not_T, ltb}
use lib.ListN.{length}
use Rattle.literals.specs.Numbering.{explicit_conjugate, judged}
use Rattle.papers.specs.Program.{Program, all_rules}
use Rattle.model.specs.Sets.{Set, complement}
use Rattle.model.specs.Iteration.{iterate}
use Rattle.model.specs.Model.{conjugate_in, Interpretation, same_interpretation, true_reduct, possible_reduct, true_set, possible_set, false_set}
use Rattle.model.specs.Model.{successor, start, interpretation_at, rounds, model}
use Rattle.papers.proofs.TestLaws.{both, left, right, and_mono, is_true, is_false}
use Rattle.model.proofs.SetLaws.{Sub, length_empty, length_complement, complement_twice, set_of_mono, complement_mono, sub_refl, sub_trans, empty_sub}
use Rattle.model.proofs.SetLaws.{count, count_le, grows, same_set_eq, same_set_refl}
use Rattle.model.proofs.Chain.{rests, still_on, first_le, first_still_lem, none_before}
use Rattle.model.proofs.LeastLaws.{Closed, least_length, least_closed, least_in, least_mono}

-- ---- the information order

-- What is true in i is true in j, what is false in i is false in j.
pub record Within (i j : Interpretation) : Type 0 where
  pub trues : Sub i.trues j.trues
  pub falses : Sub i.falses j.falses

pub within_trans : {i j k : Interpretation} → Within i j → Within j k → Within i k
within_trans a b = record { trues = sub_trans a.trues b.trues; falses = sub_trans a.falses b.falses }

pub record Sized (n : ℕ) (j : Interpretation) : Type 0 where
  pub trues : length j.trues ≡ n
  pub falses : length j.falses ≡ n

-- How much is known.
unfoldable known : Interpretation → ℕ
known j = count j.trues + count j.falses

known_le : (n : ℕ) (j : Interpretation) → Sized n j → known j ≤ 2 * n
unfolding known
known_le n j h = omega (arith, count_le j.trues, count_le j.falses)

pub interpretation_eq : (i j : Interpretation) → i.trues ≡ j.trues → i.falses ≡ j.falses → i ≡ j
interpretation_eq i j p q = λ k. record { trues = p k; falses = q k }

known_grows : (n : ℕ) (i j : Interpretation) → Sized n i → Sized n j → Within i j → (j ≡ i) ⊎ (known i < known j)
unfolding known
known_grows n i j hi hj b =
    ⊎_elim
    (λ p. ⊎_elim (λ q. inl (interpretation_eq j i p q)) (λ l. inr (omega (arith, ap count p))) falses)
    (λ l. ⊎_elim (λ q. inr (omega (arith, ap count q))) (λ m. inr (omega arith)) falses)
    (grows i.trues j.trues (hi.trues ∙ sym hj.trues) b.trues) where
      falses : (j.falses ≡ i.falses) ⊎ (count i.falses < count j.falses)
      falses = grows i.falses j.falses (hi.falses ∙ sym hj.falses) b.falses

same_eq : (i j : Interpretation) → T (same_interpretation i j) → i ≡ j
unfolding same_interpretation
same_eq i j t = interpretation_eq i j (same_set_eq i.trues j.trues (left _ _ t)) (same_set_eq i.falses j.falses (right _ _ t))

same_refl : (i : Interpretation) → T (same_interpretation i i)
unfolding same_interpretation
same_refl i = both _ _ (same_set_refl i.trues) (same_set_refl i.falses)

-- ---- T, P and F

conjugate_mono : (n : ℕ) {s t : Set} → Sub s t → (o : ℕ) → T (conjugate_in n s o) → T (conjugate_in n t o)
unfolding conjugate_in
conjugate_mono n h o = and_mono _ _ _ _ (λ l. l) (h.at (explicit_conjugate o))

module _ (p : Program) (s : ℕ) where
  -- T is the least of its closed sets,
  pub true_closed : (f : Set) → Closed (judged p.atoms) (all_rules p) (true_reduct p s f) (true_set p s f)
  unfolding true_set
  true_closed f = least_closed (judged p.atoms) (all_rules p) (true_reduct p s f)

  pub true_least : (f set : Set) → Closed (judged p.atoms) (all_rules p) (true_reduct p s f) set → Sub (true_set p s f) set
  unfolding true_set
  true_least f = least_in (judged p.atoms) (all_rules p) (true_reduct p s f)

  pub true_length : (f : Set) → length (true_set p s f) ≡ judged p.atoms
  unfolding true_set
  true_length f = least_length (judged p.atoms) (all_rules p) (true_reduct p s f)

  -- and so is P.
  pub possible_closed : (t : Set) → Closed (judged p.atoms) (all_rules p) (possible_reduct p s t) (possible_set p s t)
  unfolding possible_set
  possible_closed t = least_closed (judged p.atoms) (all_rules p) (possible_reduct p s t)

  pub possible_least : (t set : Set) → Closed (judged p.atoms) (all_rules p) (possible_reduct p s t) set → Sub (possible_set p s t) set
  unfolding possible_set
  possible_least t = least_in (judged p.atoms) (all_rules p) (possible_reduct p s t)

  pub possible_length : (t : Set) → length (possible_set p s t) ≡ judged p.atoms
  unfolding possible_set
  possible_length t = least_length (judged p.atoms) (all_rules p) (possible_reduct p s t)

  pub false_length : (t : Set) → length (false_set p s t) ≡ judged p.atoms
  unfolding false_set
  false_length t = length_complement (judged p.atoms) (possible_set p s t)

  -- The more is false, the more is true;
  pub true_mono : (f f' : Set) → Sub f f' → Sub (true_set p s f) (true_set p s f')
  unfolding true_set true_reduct
  true_mono f f' h =
      least_mono (judged p.atoms) (all_rules p) (true_reduct p s f) (true_reduct p s f')
      (record { seed = sub_refl; allowed = sub_refl; negated = h; undefined = λ u. u })

  -- the more is true, the less is possible,
  pub possible_anti : (t t' : Set) → Sub t t' → Sub (possible_set p s t') (possible_set p s t)
  unfolding possible_set possible_reduct
  possible_anti t t' h =
      least_mono (judged p.atoms) (all_rules p) (possible_reduct p s t') (possible_reduct p s t)
      (record {
        seed = sub_refl;
        allowed = set_of_mono (judged p.atoms) _ _ (λ o u.
            not_T (conjugate_in p.atoms t o) (λ v. T_not (conjugate_in p.atoms t' o) u (conjugate_mono p.atoms h o v)));
        negated = complement_mono (judged p.atoms) h;
        undefined = λ u. u;
      })

  -- and the more is false.
  pub false_mono : (t t' : Set) → Sub t t' → Sub (false_set p s t) (false_set p s t')
  unfolding false_set
  false_mono t t' h = complement_mono (judged p.atoms) (possible_anti t t' h)

  -- ---- the sequence

  pub successor_mono : (i j : Interpretation) → Within i j → Within (successor p s i) (successor p s j)
  unfolding successor
  successor_mono i j b = record {
    trues = true_mono i.falses j.falses b.falses;
    falses = false_mono i.trues j.trues b.trues;
  }

  pub successor_sized : (j : Interpretation) → Sized (judged p.atoms) (successor p s j)
  unfolding successor
  successor_sized j = record { trues = true_length j.falses; falses = false_length j.trues }

  pub next_is : (j : ℕ) → interpretation_at p s (suc j) ≡ successor p s (interpretation_at p s j)
  unfolding interpretation_at iterate
  next_is j = refl

  pub sized : (j : ℕ) → Sized (judged p.atoms) (interpretation_at p s j)
  unfolding interpretation_at iterate start
  sized zero = record { trues = length_empty _; falses = length_empty _ }
  sized (suc j) = successor_sized (interpretation_at p s j)

  start_within : (j : Interpretation) → Within (interpretation_at p s 0) j
  unfolding interpretation_at iterate start
  start_within j = record { trues = empty_sub _ _; falses = empty_sub _ _ }

  -- Nothing that is known is given up.
  pub increasing : (j : ℕ) → Within (interpretation_at p s j) (interpretation_at p s (suc j))
  unfolding interpretation_at iterate start
  increasing zero = start_within (interpretation_at p s 1)
  increasing (suc j) = successor_mono (interpretation_at p s j) (interpretation_at p s (suc j)) (increasing j)

  -- One of the first 2N equals its successor.
  pub stationary : (j : ℕ) × (j ≤ 2 * judged p.atoms) × (interpretation_at p s (suc j) ≡ interpretation_at p s j)
  unfolding interpretation_at
  stationary =
      rests (successor p s) (start p s) known (2 * judged p.atoms)
      (λ j. known_le (judged p.atoms) (interpretation_at p s j) (sized j))
      (λ j. known_grows (judged p.atoms) (interpretation_at p s j) (interpretation_at p s (suc j)) (sized j) (sized (suc j)) (increasing j))

  -- ---- the model

  -- "j is its round count, at most 2N."
  pub rounds_le : rounds p s ≤ 2 * judged p.atoms
  unfolding rounds
  rounds_le = first_le same_interpretation (successor p s) (2 * judged p.atoms) (start p s)

  -- The model equals its successor,
  pub model_fixed : successor p s (model p s) ≡ model p s
  unfolding model rounds interpretation_at iterate
  model_fixed =
      let r = stationary in
      first_still_lem same_interpretation (successor p s) same_eq same_refl (2 * judged p.atoms) (start p s) r.0 r.1 r.2

  -- so that its P is what its F leaves,
  pub model_possible : complement (judged p.atoms) (model p s).falses ≡ possible_set p s (model p s).trues
  unfolding successor false_set
  model_possible =
      ap (λ (i : Interpretation). complement (judged p.atoms) i.falses) (sym model_fixed)
      ∙ complement_twice (judged p.atoms) (possible_set p s (model p s).trues) (possible_length (model p s).trues)

  -- and none before it does.
  pub model_first : (j : ℕ) → j < rounds p s → interpretation_at p s (suc j) ≡ interpretation_at p s j → ⊥
  unfolding rounds interpretation_at
  model_first j h e = none_before same_interpretation (successor p s) same_eq same_refl (2 * judged p.atoms) (start p s) j h e

  -- From its round on every interpretation is the model,
  pub model_on : (j : ℕ) → rounds p s ≤ j → interpretation_at p s j ≡ model p s
  unfolding model interpretation_at iterate
  model_on j h =
      let e : rounds p s + (j - rounds p s) ≡ j = omega arith in
      rw e at (still_on (successor p s) (start p s) (rounds p s) (j - rounds p s) model_fixed)

  -- so that the test of one against its successor fails in each round below the round count, and in no other.
  pub still_test : (j : ℕ) → same_interpretation (interpretation_at p s (suc j)) (interpretation_at p s j) ≡ not (ltb j (rounds p s))
  still_test j = elim (dec_lt j (rounds p s)) [
    | yes h ↦ rw (lt-ltb j (rounds p s) h) (is_false _ (λ t. model_first j h (same_eq (interpretation_at p s (suc j)) (interpretation_at p s j) t)))
    | no h ↦
        let g : rounds p s ≤ j = omega arith in
        rw (le-ltb j (rounds p s) g, model_on j g, model_on (suc j) (omega arith)) (is_true _ (same_refl (model p s)))
  ]

  pub model_sized : Sized (judged p.atoms) (model p s)
  unfolding model
  model_sized = sized (rounds p s)

  -- Definition 2.2 of document 000: it is in every interpretation that holds its own successor, so it is the least fixed point.
  pub model_least : (j : Interpretation) → Within (successor p s j) j → Within (model p s) j
  unfolding model
  model_least j h = below (rounds p s) where
    below : (k : ℕ) → Within (interpretation_at p s k) j
    below zero = start_within j
    below (suc k) = rw (next_is k) (within_trans (successor_mono (interpretation_at p s k) j (below k)) h)
