-- What any call keeps, from any record that passes test 14: the entries found before, those beyond, the list's length, and that the
-- record passes.
-- Assumes nothing.
use mathlib.Core.Path.{◌≡◌, refl, sym, ap, ◌∙◌}
use mathlib.Core.Bool.{true≢false}
use mathlib.Core.List.{List, [], ◌∷◌, ◌++◌}
use Prim.Native.Nat.{ℕ, zero, suc, ◌+◌, ◌-◌, ◌<◌, ◌≤◌}
use native.Mathlib.Omega.{arith}
use native.Mathlib.Numerals.{add-one}
use native.Mathlib.Decide.{ℕ_discrete}
use lib.ListN.{length, take, drop, set, length-set}
use lib.Seq.{take-take, drop-drop, take-set-le, drop-set-lt, take-suc-set}
use Rattle.papers.proofs.TestLaws.{is_true, passes}
use Rattle.steps.specs.Explanations.{Problem, scenarios}
use Rattle.steps.specs.Continuing.{Record, Move, stands, tries, writes, move, Work, step, steps, record_of, begun, continue}
use Rattle.steps.specs.Spoilt.{rising, all_below}
use Rattle.steps.proofs.Steps.{move_end, move_writes_tells}
use Rattle.steps.proofs.Sound.{Sound, rising_last, below_wider, below_last}

-- "Entries beyond found stay", and so do those found before.
pub record Keeps (f : ℕ) (l : List ℕ) (f' : ℕ) (l' : List ℕ) : Type 0 where
  pub grows : f ≤ f'
  pub before : take f l' ≡ take f l
  pub beyond : drop f' l' ≡ drop f' l
  pub size : length l' ≡ length l

kept_same : (f : ℕ) (l : List ℕ) → Keeps f l f l
kept_same f l = record { grows = omega arith; before = refl; beyond = refl; size = refl }

kept_set : (f : ℕ) (l : List ℕ) (p : ℕ) → Keeps f l (f + 1) (set l f p)
kept_set f l p = record {
  grows = omega arith;
  before = take-set-le f l f p (omega arith);
  beyond = drop-set-lt (f + 1) l f p (omega arith);
  size = length-set l f p;
}

kept_then : {f : ℕ} {l : List ℕ} {f' : ℕ} {l' : List ℕ} {f'' : ℕ} {l'' : List ℕ} → Keeps f l f' l' → Keeps f' l' f'' l'' → Keeps f l f'' l''
kept_then {f} {l} {f'} {l'} {f''} {l''} a b =
    let n : f'' ≡ f' + (f'' - f') = omega arith in
    let far : (x : List ℕ) → drop f'' x ≡ drop (f'' - f') (drop f' x) = λ x. ap (λ (k : ℕ). drop k x) n ∙ sym (drop-drop (f'' - f') f' x) in
    record {
      grows = omega arith;
      before = sym (take-take f f' l'' a.grows) ∙ ap (take f) b.before ∙ take-take f f' l' a.grows ∙ a.before;
      beyond = b.beyond ∙ far l' ∙ ap (drop (f'' - f')) a.beyond ∙ sym (far l);
      size = b.size ∙ a.size;
    }

module _ (P : Problem) where
  -- ---- one step

  kept_step : (s : Work) → Keeps s.found s.list (step P s).found (step P s).list
  unfolding step
  kept_step s = go (move P s.position s.found s.list) refl
    where
      go : (m : Move) → move P s.position s.found s.list ≡ m → Keeps s.found s.list (step P s).found (step P s).list
      go stands e = rw (e, step) (kept_same s.found s.list)
      go tries e = rw (e, step) (kept_same s.found s.list)
      go writes e = rw (e, step) (kept_set s.found s.list s.position)

  sound_tried : (p f : ℕ) (l : List ℕ) → p < scenarios P → Sound P (record { position = p; found = f }) l
      → Sound P (record { position = p + 1; found = f }) l
  sound_tried p f l h s = record {
    within = omega arith;
    held = s.held;
    rises = s.rises;
    below = rw (add-one p) (is_true (all_below (suc p) (take f l)) (below_wider (take f l) p (passes (all_below p (take f l)) s.below)));
  }

  sound_written : (p f : ℕ) (l : List ℕ) → p < scenarios P → f < length l → Sound P (record { position = p; found = f }) l
      → Sound P (record { position = p + 1; found = f + 1 }) (set l f p)
  sound_written p f l h g s =
      let e : take (f + 1) (set l f p) ≡ take f l ++ p ∷ [] = ap (λ (n : ℕ). take n (set l f p)) (add-one f) ∙ take-suc-set l f p g in
      let below = passes (all_below p (take f l)) s.below in
      let rises = passes (rising 0 (take f l)) s.rises in
      let n = length-set l f p in
      record {
        within = omega arith;
        held = omega arith;
        rises = rw e (is_true (rising 0 (take f l ++ p ∷ [])) (rising_last 0 (take f l) p (omega arith) rises below));
        below = rw (e, add-one p) (is_true (all_below (suc p) (take f l ++ p ∷ [])) (below_last (take f l) p below));
      }

  sound_step : (s : Work) → Sound P (record_of s) s.list → Sound P (record_of (step P s)) (step P s).list
  unfolding step
  sound_step s h = go (move P s.position s.found s.list) refl
    where
      p : ℕ
      p = s.position

      inside : (m : Move) → (m ≡ stands → ⊥) → move P p s.found s.list ≡ m → p < scenarios P
      inside m n e = elim (ℕ_discrete p (scenarios P)) [
        | yes q ↦ absurd (n (sym e ∙ move_end P p s.found s.list q))
        | no q ↦ (let w = h.within in omega arith)
      ]

      go : (m : Move) → move P p s.found s.list ≡ m → Sound P (record_of (step P s)) (step P s).list
      go stands e = rw (e, step) h
      go tries e = rw (e, step) (sound_tried p s.found s.list (inside tries (λ q. true≢false cc) e) h)
      go writes e =
          rw (e, step)
          (sound_written p s.found s.list (inside writes (λ q. true≢false cc) e) (move_writes_tells P p s.found s.list e) h)

  -- ---- a call

  kept_steps : (w : ℕ) (s : Work) → Keeps s.found s.list (steps P w s).found (steps P w s).list
  unfolding steps
  kept_steps zero s = kept_same s.found s.list
  kept_steps (suc w) s = kept_then (kept_step s) (kept_steps w (step P s))

  sound_steps : (w : ℕ) (s : Work) → Sound P (record_of s) s.list → Sound P (record_of (steps P w s)) (steps P w s).list
  unfolding steps
  sound_steps zero s h = h
  sound_steps (suc w) s h = sound_steps w (step P s) (sound_step s h)

  pub continue_keeps : (w : ℕ) (r : Record) (l : List ℕ) → Keeps r.found l (continue P w r l).new.found (continue P w r l).list
  unfolding continue
  continue_keeps w r l = kept_steps w (begun r l)

  -- What passes test 14 passes it after the call.
  pub continue_sound : (w : ℕ) (r : Record) (l : List ℕ) → Sound P r l → Sound P (continue P w r l).new (continue P w r l).list
  unfolding continue
  continue_sound w r l h = sound_steps w (begun r l) h
