-- Many steps: w1 of them and then w2 are w1 + w2, standing still lasts, and what a call counts adds up.
-- Assumes nothing.
use mathlib.Core.Path.{◌≡◌, refl, sym, ap, ◌∙◌}
use mathlib.Core.List.{List}
use mathlib.Core.Logic.{◌⊎◌, inl, inr, ⊎_elim}
use Prim.Native.Nat.{ℕ, zero, suc, ◌+◌, ◌-◌, ◌<◌, ◌≤◌}
use native.Mathlib.Omega.{arith}
use native.Mathlib.Nat.{zero-add, add-zero, suc-add, add_assoc}
use lib.ListN.{set}
use Rattle.steps.specs.Explanations.{Problem}
use Rattle.steps.specs.Continuing.{Record, Move, stands, tries, writes, move, Work, work, step, steps, Report, record_of, begun, continue}
use Rattle.steps.proofs.Steps.{Onward, step_either}

-- What was counted before, and what is counted from there on.
abbrev pub after : ℕ → ℕ → Work → Work
after t r s = work s.position s.found s.list (t + s.tried) (r + s.rounds)

-- Two calls, one after the other, come to one: it leaves what the second leaves, and what they tried adds up.
pub record Added (x y both : Report) : Type 0 where
  pub new : both.new ≡ y.new
  pub list : both.list ≡ y.list
  pub tried : both.tried ≡ x.tried + y.tried
  pub rounds : both.rounds ≡ x.rounds + y.rounds

-- w steps go on by w at most, and by as many as they try.
pub record Gone (w : ℕ) (s next : Work) : Type 0 where
  pub least : s.position ≤ next.position
  pub most : next.position ≤ s.position + w
  pub count : next.tried + s.position ≡ s.tried + next.position

module _ (P : Problem) where
  pub steps_zero : (s : Work) → steps P 0 s ≡ s
  unfolding steps
  steps_zero s = refl

  -- w1 steps, then w2 steps, are w1 + w2 steps.
  pub steps_add : (a b : ℕ) (s : Work) → steps P (a + b) s ≡ steps P b (steps P a s)
  unfolding steps
  steps_add zero b s = rw (zero-add b)
  steps_add (suc a) b s = rw (suc-add a b) (steps_add a b (step P s))

  pub steps_last : (w : ℕ) (s : Work) → steps P (suc w) s ≡ step P (steps P w s)
  unfolding steps
  steps_last zero s = refl
  steps_last (suc w) s = steps_last w (step P s)

  -- Once a step stands still, all further steps do.
  pub steps_still : (w : ℕ) (s : Work) → step P s ≡ s → steps P w s ≡ s
  unfolding steps
  steps_still zero s e = refl
  steps_still (suc w) s e = rw e (steps_still w s e)

  -- ---- the counts

  step_after : (t r : ℕ) (s : Work) → step P (after t r s) ≡ after t r (step P s)
  unfolding step
  step_after t r s = go (move P s.position s.found s.list) refl
    where
      c : ℕ
      c = P.rounds s.position

      go : (m : Move) → move P s.position s.found s.list ≡ m → step P (after t r s) ≡ after t r (step P s)
      go stands e = rw (e, step)
      go tries e = rw (e, step) (λ i. work (s.position + 1) s.found s.list (add_assoc t s.tried 1 i) (add_assoc r s.rounds c i))
      go writes e =
          rw (e, step)
          (λ i. work (s.position + 1) (s.found + 1) (set s.list s.found s.position) (add_assoc t s.tried 1 i) (add_assoc r s.rounds c i))

  pub steps_after : (t r w : ℕ) (s : Work) → steps P w (after t r s) ≡ after t r (steps P w s)
  unfolding steps
  steps_after t r zero s = refl
  steps_after t r (suc w) s = rw (step_after t r s) (steps_after t r w (step P s))

  -- The steps of a call that has counted t and r so far: those of a call that begins there, added.
  pub steps_counted : (w p f : ℕ) (l : List ℕ) (t r : ℕ) → steps P w (work p f l t r) ≡ after t r (steps P w (work p f l 0 0))
  steps_counted w p f l t r =
      ap (steps P w) (λ i. work p f l (sym (add-zero t) i) (sym (add-zero r) i)) ∙ steps_after t r w (work p f l 0 0)

  -- A call with allowance a and then one with b come to one with a + b.
  pub continue_add : (a b : ℕ) (r : Record) (l : List ℕ)
      → Added (continue P a r l) (continue P b (continue P a r l).new (continue P a r l).list) (continue P (a + b) r l)
  unfolding continue
  continue_add a b r l = record {
    new = ap record_of e;
    list = ap (λ (z : Work). z.list) e;
    tried = ap (λ (z : Work). z.tried) e;
    rounds = ap (λ (z : Work). z.rounds) e;
  }
    where
      s : Work
      s = steps P a (begun r l)

      e : steps P (a + b) (begun r l) ≡ after s.tried s.rounds (steps P b (work s.position s.found s.list 0 0))
      e = steps_add a b (begun r l) ∙ steps_counted b s.position s.found s.list s.tried s.rounds

  -- ---- how far steps go

  gone_one : (s : Work) → Gone 1 s (step P s)
  gone_one s = ⊎_elim (λ h. rw h.1 (record { least = omega arith; most = omega arith; count = omega arith }))
      (λ (h : Onward s (step P s)). record { least = omega arith; most = omega arith; count = omega arith }) (step_either P s)

  pub steps_gone : (w : ℕ) (s : Work) → Gone w s (steps P w s)
  unfolding steps
  steps_gone zero s = record { least = omega arith; most = omega arith; count = omega arith }
  steps_gone (suc w) s =
      let one = gone_one s in
      let more = steps_gone w (step P s) in
      record { least = omega arith; most = omega arith; count = omega arith }

  -- After w steps, a search stands still or has tried w scenarios.
  pub steps_either : (w : ℕ) (s : Work) → (step P (steps P w s) ≡ steps P w s) ⊎ ((steps P w s).position ≡ s.position + w)
  steps_either zero s = inr (ap (λ (z : Work). z.position) (steps_zero s) ∙ sym (add-zero s.position))
  steps_either (suc w) s = rw (steps_last w s) (⊎_elim still moved (steps_either w s))
    where
      x : Work
      x = steps P w s

      Claim : Type 0
      Claim = (step P (step P x) ≡ step P x) ⊎ ((step P x).position ≡ s.position + suc w)

      still : step P x ≡ x → Claim
      still e = inl (ap (step P) e)

      moved : x.position ≡ s.position + w → Claim
      moved e = ⊎_elim (λ h. still h.1) (λ (h : Onward x (step P x)). inr (omega arith)) (step_either P x)

  -- Steps that try fewer scenarios than they may have come to stand still: any further steps leave them as they are.
  pub steps_short : (a w : ℕ) (s : Work) → a ≤ w → (steps P a s).tried < s.tried + a → steps P w s ≡ steps P a s
  steps_short a w s h few =
      let g = steps_gone a s in
      let split : w ≡ a + (w - a) = omega arith in
      ap (λ (n : ℕ). steps P n s) split ∙ steps_add a (w - a) s
      ∙ ⊎_elim (λ (e : step P (steps P a s) ≡ steps P a s). steps_still (w - a) (steps P a s) e)
      (λ (e : (steps P a s).position ≡ s.position + a). absurd (omega arith)) (steps_either a s)
