-- The stopping point of the general rule by its own words: `stop_from`, which goes by steps, is the first scenario at or after p that is
-- an explanation containing no listed entry's assumptions and finds the list full, else 3^k; and no other number is.
-- Assumes nothing.
use mathlib.Core.Path.{◌≡◌, refl, sym, ap, ◌∙◌}
use mathlib.Core.Bool.{true, false, true≢false}
use mathlib.Core.List.{List, [], ◌∷◌, ◌++◌, append-nil}
use mathlib.Core.Logic.{⊎_elim}
use Prim.Native.Nat.{ℕ, zero, suc, ◌+◌, ◌-◌, ◌<◌, ◌≤◌, min}
use native.Mathlib.Omega.{arith}
use native.Mathlib.Numerals.{add-one}
use native.Mathlib.Decide.{dec_lt}
use borrow.Author.Tests.{le-leb, lt-leb}
use lib.Dec.{leb}
use lib.ListN.{length, take, set, length-set, length-take}
use lib.Seq.{take-suc-set}
use Rattle.papers.specs.Tests.{◌and◌}
use Rattle.steps.specs.Explanations.{Problem, scenarios}
use Rattle.steps.specs.Continuing.{
  Record,
  new_to,
  Move,
  stands,
  tries,
  writes,
  move,
  Work,
  step,
  steps,
  begun,
  stop_from,
  listed_after,
  finds_full,
  FirstFull,
}
use Rattle.steps.proofs.Steps.{move_stands, move_tries_old, move_writes_new, move_writes_tells, Onward, step_either}
use Rattle.steps.proofs.Runs.{steps_zero, steps_last}
use Rattle.steps.proofs.General.{at_stop, stop_still, steps_position, stop_from_least, stop_from_most}

-- ---- what is listed, scenario by scenario

module _ (P : Problem) (entries : List ℕ) (p : ℕ) where
  listed_zero : listed_after P entries p 0 ≡ entries
  unfolding listed_after
  listed_zero = refl

  listed_old : (d : ℕ) → new_to P (listed_after P entries p d) (p + d) ≡ false → listed_after P entries p (suc d) ≡ listed_after P entries p d
  unfolding listed_after
  listed_old d e = rw e (append-nil (listed_after P entries p d))

  listed_new : (d : ℕ) → new_to P (listed_after P entries p d) (p + d) ≡ true
      → listed_after P entries p (suc d) ≡ listed_after P entries p d ++ (p + d) ∷ []
  unfolding listed_after
  listed_new d e = rw e

module _ (P : Problem) (r : Record) (l : List ℕ) where
  abbrev listed : ℕ → List ℕ
  listed d = listed_after P (take r.found l) r.position d

  -- A search that has come to the d-th scenario from its position on holds what is listed by then.
  record Along (d : ℕ) (s : Work) : Type 0 where
    pub position : s.position ≡ r.position + d
    pub entries : take s.found s.list ≡ listed d
    pub size : length s.list ≡ length l

  new_along : (d : ℕ) (s : Work) → Along d s → new_to P (listed d) (r.position + d) ≡ new_to P (take s.found s.list) s.position
  new_along d s a = λ i. new_to P (sym a.entries i) (sym a.position i)

  -- The list is full by those listed where it is by the count.
  full_along : (d : ℕ) (s : Work) → Along d s → length s.list ≤ s.found → leb (length l) (length (listed d)) ≡ true
  full_along d s a h =
      let n = ap length (sym a.entries) ∙ length-take s.found s.list in
      let e = a.size in
      le-leb (length l) (length (listed d)) (omega arith)

  room_along : (d : ℕ) (s : Work) → Along d s → s.found < length s.list → leb (length l) (length (listed d)) ≡ false
  room_along d s a h =
      let n = ap length (sym a.entries) ∙ length-take s.found s.list in
      let e = a.size in
      lt-leb (length l) (length (listed d)) (omega arith)

  along_start : Along 0 (begun r l)
  along_start = record { position = omega arith; entries = sym (listed_zero P (take r.found l) r.position); size = refl }

  -- One scenario on.
  along_step : (d : ℕ) (s : Work) → Along d s → Onward s (step P s) → Along (suc d) (step P s)
  unfolding step
  along_step d s a o = go (move P s.position s.found s.list) refl
    where
      next : s.position + 1 ≡ r.position + suc d
      next = let e = a.position in omega arith

      go : (m : Move) → move P s.position s.found s.list ≡ m → Along (suc d) (step P s)
      go stands e = absurd (let q : (step P s).position ≡ s.position = rw (e, step) in let n = o.position in omega arith)
      go tries e =
          let old = new_along d s a ∙ move_tries_old P s.position s.found s.list e in
          rw (e, step)
          (record {
            position = next;
            entries = a.entries ∙ sym (listed_old P (take r.found l) r.position d old);
            size = a.size;
          })
      go writes e =
          let new = new_along d s a ∙ move_writes_new P s.position s.found s.list e in
          let room = move_writes_tells P s.position s.found s.list e in
          rw (e, step)
          (record {
            position = next;
            entries =
                ap (λ (n : ℕ). take n (set s.list s.found s.position)) (add-one s.found)
                ∙ take-suc-set s.list s.found s.position room
                ∙ (λ i. a.entries i ++ a.position i ∷ [])
                ∙ sym (listed_new P (take r.found l) r.position d new);
            size = length-set s.list s.found s.position ∙ a.size;
          })

  -- The test of the d-th scenario.
  finds_at : (d : ℕ) → finds_full P r l (r.position + d) ≡ new_to P (listed d) (r.position + d) and leb (length l) (length (listed d))
  unfolding finds_full
  finds_at d =
      let e : r.position + d - r.position ≡ d = omega arith in
      ap (λ (n : ℕ). new_to P (listed n) (r.position + d) and leb (length l) (length (listed n))) e

  -- A search that goes on finds no list full; one that stands still short of 3^k does.
  goes_on : (d : ℕ) (s : Work) → Along d s → Onward s (step P s) → finds_full P r l (r.position + d) ≡ false
  unfolding step ◌and◌
  goes_on d s a o = go (move P s.position s.found s.list) refl
    where
      go : (m : Move) → move P s.position s.found s.list ≡ m → finds_full P r l (r.position + d) ≡ false
      go stands e = absurd (let q : (step P s).position ≡ s.position = rw (e, step) in let n = o.position in omega arith)
      go tries e = finds_at d ∙ rw (new_along d s a ∙ move_tries_old P s.position s.found s.list e)
      go writes e =
          finds_at d
          ∙ rw (
            new_along d s a ∙ move_writes_new P s.position s.found s.list e,
            room_along d s a (move_writes_tells P s.position s.found s.list e),
          )

  stands_still : (d : ℕ) (s : Work) → Along d s → s.position < scenarios P → move P s.position s.found s.list ≡ stands
      → finds_full P r l (r.position + d) ≡ true
  unfolding ◌and◌
  stands_still d s a h e =
      let m = move_stands P s.position s.found s.list (λ q. omega arith) e in
      finds_at d ∙ rw (new_along d s a ∙ m.0, full_along d s a m.1)

module _ (P : Problem) (r : Record) (l : List ℕ) (within : r.position ≤ scenarios P) where
  come_to : ℕ → Work
  come_to d = steps P d (begun r l)

  -- Up to the stopping point the d-th step comes to the d-th scenario; at it, a further one stands still.
  come_position : (d : ℕ) → (come_to d).position ≡ min (stop_from P r l) (r.position + d)
  unfolding come_to stop_from at_stop
  come_position d = steps_position P (begun r l) (scenarios P - r.position) (stop_still P r l within) d

  come_next : (d : ℕ) → come_to (suc d) ≡ step P (come_to d)
  unfolding come_to
  come_next d = steps_last P d (begun r l)

  onward : (d : ℕ) → r.position + d < stop_from P r l → Onward (come_to d) (step P (come_to d))
  onward d h =
      let a = come_position d in
      let b = come_position (suc d) in
      let n = ap (λ (z : Work). z.position) (come_next d) in
      ⊎_elim (λ z. absurd (let e = ap (λ (z : Work). z.position) z.1 in omega arith)) (λ o. o) (step_either P (come_to d))

  along : (d : ℕ) → r.position + d ≤ stop_from P r l → Along P r l d (come_to d)
  unfolding come_to
  along zero h = rw (steps_zero P (begun r l)) (along_start P r l)
  along (suc d) h = rw (come_next d) (along_step P r l d (come_to d) (along d (omega arith)) (onward d (omega arith)))

  stands_there : (d : ℕ) → r.position + d ≡ stop_from P r l → move P (come_to d).position (come_to d).found (come_to d).list ≡ stands
  stands_there d e =
      let a = come_position d in
      let b = come_position (suc d) in
      let n = ap (λ (z : Work). z.position) (come_next d) in
      ⊎_elim (λ z. z.0) (λ o. absurd (let m = o.position in omega arith)) (step_either P (come_to d))

  before_stop : (d : ℕ) → r.position + d < stop_from P r l → finds_full P r l (r.position + d) ≡ false
  before_stop d h = goes_on P r l d (come_to d) (along d (omega arith)) (onward d h)

  at_stop_lem : (d : ℕ) → r.position + d ≡ stop_from P r l → stop_from P r l < scenarios P → finds_full P r l (r.position + d) ≡ true
  at_stop_lem d e h =
      let a = come_position d in
      stands_still P r l d (come_to d) (along d (omega arith)) (omega arith) (stands_there d e)

  pub stop_from_first : FirstFull P r l (stop_from P r l)
  stop_from_first = record {
    least = least;
    most = stop_from_most P r l within;
    before = λ q g h. rw (split q g) (before_stop (q - r.position) (let e = split q g in omega arith));
    there = λ h. rw (split (stop_from P r l) least) (at_stop_lem (stop_from P r l - r.position) (sym (split (stop_from P r l) least)) h);
  }
    where
      least : r.position ≤ stop_from P r l
      least = stop_from_least P r l within

      split : (q : ℕ) → r.position ≤ q → q ≡ r.position + (q - r.position)
      split q g = omega arith

-- There is but one.
pub first_one : (P : Problem) (r : Record) (l : List ℕ) (m n : ℕ) → FirstFull P r l m → FirstFull P r l n → m ≡ n
first_one P r l m n a b = elim (dec_lt m n) [
  | yes h ↦ absurd (earlier m n a b h)
  | no h ↦ elim (dec_lt n m) [
    | yes g ↦ absurd (earlier n m b a g)
    | no g ↦ omega arith
  ]
]
  where
    -- The earlier of two would both find the list full and not.
    earlier : (m n : ℕ) → FirstFull P r l m → FirstFull P r l n → m < n → ⊥
    earlier m n a b h =
        let most = b.most in
        let e = sym (a.there (omega arith)) ∙ b.before m a.least h in
        true≢false cc

pub stop_from_only : (P : Problem) (r : Record) (l : List ℕ) (m : ℕ) → r.position ≤ scenarios P → FirstFull P r l m → m ≡ stop_from P r l
stop_from_only P r l m h a = first_one P r l m (stop_from P r l) a (stop_from_first P r l h)
