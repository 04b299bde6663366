-- A search from the fresh record: at position p its state is canonical. Its rule is minimality, and its stopping point the one of
-- document 01.
-- Assumes nothing.
use mathlib.Core.Path.{◌≡◌, refl, sym, ap, ◌∙◌}
use mathlib.Core.Bool.{not}
use mathlib.Core.List.{List, [], ◌∷◌, ◌++◌, append_assoc}
use mathlib.Core.Logic.{inl, inr}
use Prim.Native.Nat.{ℕ, zero, suc, ◌+◌, ◌-◌, ◌<◌, ◌≤◌, min}
use native.Mathlib.Omega.{arith}
use native.Mathlib.Nat.{add-zero, add_assoc}
use native.Mathlib.Numerals.{add-one}
use native.Mathlib.Decide.{ℕ_discrete, dec_lt}
use lib.Dec.{T, T_not}
use lib.ListN.{length, take, drop, set, length-append, length-drop}
use lib.Seq.{take-append_seam, drop-append_seam, set-append_seam, drop-cons}
use Rattle.papers.proofs.TestLaws.{decided, is_true, is_false}
use Rattle.steps.specs.Explanations.{Problem, scenarios, minimal, minimals, stop, sum_below, rounds_from}
use Rattle.steps.specs.Continuing.{Record, fresh, new_to, Work, work, step, steps, begun, report_of, continue, stop_from}
use Rattle.steps.proofs.Minimals.{minimals_yes, minimals_no, new_minimal}
use Rattle.steps.proofs.Stopping.{stop_le, stop_here, stop_count, stop_full}
use Rattle.steps.proofs.Steps.{move_tries, move_writes, move_full, step_tries, step_writes, step_stands, step_end}
use Rattle.steps.proofs.Runs.{steps_zero, steps_add, steps_last, steps_still}

-- How many minimal explanations there are below p.
abbrev pub found_below : Problem → ℕ → ℕ
found_below P p = length (minimals P p)

-- The record at position p, and the list: those found, then the entries that a list had at the start.
unfoldable pub record_at : Problem → ℕ → Record
record_at P p = record { position = p; found = found_below P p }

unfoldable pub list_at : Problem → List ℕ → ℕ → List ℕ
list_at P l p = minimals P p ++ drop (found_below P p) l

abbrev pub work_at : Problem → List ℕ → ℕ → ℕ → ℕ → Work
work_at P l p t r = work p (found_below P p) (list_at P l p) t r

-- It begins with the fresh record and the list as it is.
pub record_at_fresh : (P : Problem) → record_at P 0 ≡ fresh
unfolding record_at minimals
record_at_fresh P = refl

module _ (P : Problem) (l : List ℕ) where
  pub list_at_fresh : list_at P l 0 ≡ l
  unfolding list_at minimals
  list_at_fresh = refl

  pub begun_at : (p : ℕ) → begun (record_at P p) (list_at P l p) ≡ work_at P l p 0 0
  unfolding record_at
  begun_at p = refl

  pub list_at_found : (p : ℕ) → take (found_below P p) (list_at P l p) ≡ minimals P p
  unfolding list_at
  list_at_found p = take-append_seam (minimals P p) (drop (found_below P p) l)

  pub list_at_beyond : (p : ℕ) → drop (found_below P p) (list_at P l p) ≡ drop (found_below P p) l
  unfolding list_at
  list_at_beyond p = drop-append_seam (minimals P p) (drop (found_below P p) l)

  pub list_at_length : (p : ℕ) → p ≤ stop P (length l) → length (list_at P l p) ≡ length l
  unfolding list_at
  list_at_length p h = let c = stop_count P (length l) p h in simp (length-append, length-drop) (omega arith)

  -- The general rule is minimality.
  pub new_at : (p : ℕ) → p < scenarios P → new_to P (take (found_below P p) (list_at P l p)) p ≡ minimal P p
  new_at p h = rw (list_at_found p) (new_minimal P p h)

  -- ---- one step

  list_at_yes : (p : ℕ) → T (minimal P p) → found_below P p < length l → set (list_at P l p) (found_below P p) p ≡ list_at P l (suc p)
  unfolding list_at
  list_at_yes p y h =
      let n : length (minimals P p ++ p ∷ []) ≡ suc (found_below P p) = length-append (minimals P p) (p ∷ []) ∙ add-one _ in
      rw (minimals_yes P p y, n, drop-cons l (found_below P p) 0, set-append_seam, append_assoc)

  list_at_no : (p : ℕ) → T (not (minimal P p)) → list_at P l p ≡ list_at P l (suc p)
  unfolding list_at
  list_at_no p o = rw (minimals_no P p o)

  found_yes : (p : ℕ) → T (minimal P p) → found_below P p + 1 ≡ found_below P (suc p)
  found_yes p y = sym (ap length (minimals_yes P p y) ∙ length-append (minimals P p) (p ∷ []))

  found_no : (p : ℕ) → T (not (minimal P p)) → found_below P p ≡ found_below P (suc p)
  found_no p o = sym (ap length (minimals_no P p o))

  -- Below the stopping point a step tries the scenario, and writes it exactly where it is minimal.
  pub step_at : (p t r : ℕ) → p < stop P (length l) → step P (work_at P l p t r) ≡ work_at P l (suc p) (t + 1) (r + P.rounds p)
  step_at p t r h =
      let b = stop_le P (length l) in
      let len = list_at_length p (omega arith) in
      let inside : (p ≡ scenarios P → ⊥) = λ e. omega arith in
      elim (decided (minimal P p)) [
        | inl y ↦ (
            let room : found_below P p < length l = has_room y in
            let new = new_at p (omega arith) ∙ is_true (minimal P p) y in
            step_writes P p (found_below P p) (list_at P l p) t r (move_writes P p (found_below P p) (list_at P l p) inside new (omega arith))
            ∙ (λ i. work (add-one p i) (found_yes p y i) (list_at_yes p y room i) (t + 1) (r + P.rounds p)))
        | inr o ↦ (
            let new = new_at p (omega arith) ∙ is_false (minimal P p) (T_not (minimal P p) o) in
            step_tries P p (found_below P p) (list_at P l p) t r (move_tries P p (found_below P p) (list_at P l p) inside new)
            ∙ (λ i. work (add-one p i) (found_no p o i) (list_at_no p o i) (t + 1) (r + P.rounds p)))
      ]
    where
      has_room : T (minimal P p) → found_below P p < length l
      has_room y =
          let c = stop_count P (length l) p (omega arith) in
          let b = stop_le P (length l) in
          elim (ℕ_discrete (found_below P p) (length l)) [
            | yes e ↦ (let s = stop_here P (length l) p (omega arith) y e in absurd (omega arith))
            | no n ↦ omega arith
          ]

  -- At the stopping point it stands still.
  pub step_at_stop : (p t r : ℕ) → p ≡ stop P (length l) → step P (work_at P l p t r) ≡ work_at P l p t r
  step_at_stop p t r e = elim (dec_lt p (scenarios P)) [
    | yes m ↦ (
        let f = stop_full P (length l) (omega arith) in
        let y : T (minimal P p) = rw e f.0 in
        let c : found_below P p ≡ length l = rw e f.1 in
        let len = list_at_length p (omega arith) in
        let new = new_at p m ∙ is_true (minimal P p) y in
        step_stands P p (found_below P p) (list_at P l p) t r (move_full P p (found_below P p) (list_at P l p) (λ q. omega arith) new (omega arith)))
    | no g ↦ (let b = stop_le P (length l) in step_end P p (found_below P p) (list_at P l p) t r (omega arith))
  ]

  -- ---- many steps

  -- Up to the stopping point m steps try the m scenarios from p on.
  steps_at : (m p t r : ℕ) → p + m ≤ stop P (length l)
      → steps P m (work_at P l p t r) ≡ work_at P l (p + m) (t + m) (r + sum_below m (rounds_from P p))
  unfolding sum_below
  steps_at zero p t r h =
      steps_zero P (work_at P l p t r) ∙ (λ i. work_at P l (sym (add-zero p) i) (sym (add-zero t) i) (sym (add-zero r) i))
  steps_at (suc m) p t r h =
      let sum = sum_below m (rounds_from P p) in
      let a : suc (p + m) ≡ p + suc m = omega arith in
      let b : t + m + 1 ≡ t + suc m = omega arith in
      steps_last P m (work_at P l p t r) ∙ ap (step P) (steps_at m p t r (omega arith)) ∙ step_at (p + m) (t + m) (r + sum) (omega arith)
      ∙ (λ i. work_at P l (a i) (b i) (add_assoc r sum (P.rounds (p + m)) i))

  -- "Tries min(w, stop - p) scenarios."
  pub steps_from : (w p m : ℕ) → p ≤ stop P (length l) → m ≡ min w (stop P (length l) - p)
      → steps P w (work_at P l p 0 0) ≡ work_at P l (p + m) m (sum_below m (rounds_from P p))
  steps_from w p m h e =
      let split : w ≡ m + (w - m) = omega arith in
      ap (λ (n : ℕ). steps P n (work_at P l p 0 0)) split ∙ steps_add P m (w - m) (work_at P l p 0 0)
      ∙ ap (steps P (w - m)) (steps_at m p 0 0 (omega arith) ∙ zeros) ∙ rest
    where
      sum : ℕ
      sum = sum_below m (rounds_from P p)

      zeros : work_at P l (p + m) (0 + m) (0 + sum) ≡ work_at P l (p + m) m sum
      zeros = let a : 0 + m ≡ m = omega arith in let b : 0 + sum ≡ sum = omega arith in λ i. work_at P l (p + m) (a i) (b i)

      rest : steps P (w - m) (work_at P l (p + m) m sum) ≡ work_at P l (p + m) m sum
      rest = elim (ℕ_discrete w m) [
        | yes q ↦ (
            let n : w - m ≡ 0 = omega arith in
            ap (λ (k : ℕ). steps P k (work_at P l (p + m) m sum)) n ∙ steps_zero P (work_at P l (p + m) m sum))
        | no q ↦ steps_still P (w - m) (work_at P l (p + m) m sum) (step_at_stop (p + m) m sum (omega arith))
      ]

  -- ---- one call

  pub continue_at : (w p m : ℕ) → p ≤ stop P (length l) → m ≡ min w (stop P (length l) - p)
      → continue P w (record_at P p) (list_at P l p) ≡ report_of P w (work_at P l (p + m) m (sum_below m (rounds_from P p)))
  unfolding continue
  continue_at w p m h e = ap (report_of P w) (ap (steps P w) (begun_at p) ∙ steps_from w p m h e)

  -- The general stopping point is the stopping point.
  pub stop_from_at : (p : ℕ) → p ≤ stop P (length l) → stop_from P (record_at P p) (list_at P l p) ≡ stop P (length l)
  unfolding stop_from record_at
  stop_from_at p h =
      let b = stop_le P (length l) in
      let m = stop P (length l) - p in
      let e : p + m ≡ stop P (length l) = omega arith in
      ap (λ (z : Work). z.position) (steps_from (scenarios P - p) p m h (omega arith)) ∙ e
