-- What a decided step leaves, and how steps one by one are the steps of up to 64 scenarios.
-- Assumes nothing.
use mathlib.Core.Path.{◌≡◌, refl, sym, ap, subst, ◌∙◌}
use mathlib.Core.Bool.{Bool}
use mathlib.Core.List.{List}
use Prim.Native.Nat.{ℕ, ◌+◌, ◌<◌, ◌≤◌}
use native.Mathlib.Omega.{arith}
use native.Mathlib.Numerals.{add-one}
use lib.ListN.{get_or, take, set, length-set}
use lib.Seq.{take-set-le}
use Rattle.lanes.specs.Lanes.{lane_bit}
use Rattle.stepping.specs.declared.Move.{Move as Told}
use Rattle.stepping.specs.declared.Move.TheVariants.{Stands, Tries, Writes}
use Rattle.stepping.specs.declared.Progress.{Progress}
use Rattle.steps.specs.Explanations.{Problem}
use Rattle.steps.specs.Continuing.{new_to, work, step, steps}
use Rattle.stepping.specs.Stepping.{work_of, Decided, Kept, LaneReady, LaneTried, InLanes, LanesTried}
use Rattle.stepping.specs.Containing.{Without}
use Rattle.steps.proofs.Steps.{step_stands, step_tries, step_writes}
use Rattle.steps.proofs.Runs.{steps_zero, steps_last, steps_short}

-- ---- one scenario

-- The next scenario, with so many found.
abbrev pub next : Progress → ℕ → ℕ → Progress
next s rounds found = record { position = s.position + 1; found = found; tried = s.tried + 1; rounds = s.rounds + rounds }

module _ {k total first : ℕ} {new : Bool} {rounds : ℕ} {s : Progress} {l : List ℕ} {told : Told} (ready : LaneReady k total first rounds s l)
    (decided : Decided k s.position first s.found l new told) where
  is_told : (m : Told) → told ≡ m → Decided k s.position first s.found l new m
  is_told m q = subst (Decided k s.position first s.found l new) q decided

  pub lane_stands : told ≡ Stands → LaneTried k total first new rounds s l s l
  lane_stands q = let d = is_told Stands q in record {
    advance = record { kept = ready.kept; size = refl; least = omega arith; most = omega arith; moved = omega arith };
    grown = omega arith;
    same = λ n h. refl;
    is = λ P a b r. step_stands P s.position s.found l s.tried s.rounds (d.is P a b);
  }

  pub lane_tries : told ≡ Tries → LaneTried k total first new rounds s l (next s rounds s.found) l
  lane_tries q =
      let d = is_told Tries q in
      let inside = d.allowed in
      record {
        advance = record {
          kept = record { within = omega arith; held = omega arith; few = omega arith; cost = omega arith };
          size = refl;
          least = omega arith;
          most = omega arith;
          moved = omega arith;
        };
        grown = omega arith;
        same = λ n h. refl;
        is = λ P a b r.
            step_tries P s.position s.found l s.tried s.rounds (d.is P a b)
            ∙ ap (λ (n : ℕ). work (s.position + 1) s.found l (s.tried + 1) (s.rounds + n)) r;
      }

  pub lane_writes : told ≡ Writes
      → LaneTried k total first new rounds s l (next s rounds (s.found + 1)) (set l s.found s.position)
  lane_writes q =
      let d = is_told Writes q in
      let inside = d.allowed.0 in
      let room = d.allowed.1 in
      let n = length-set l s.found s.position in
      record {
        advance = record {
          kept = record { within = omega arith; held = omega arith; few = omega arith; cost = omega arith };
          size = n;
          least = omega arith;
          most = omega arith;
          moved = omega arith;
        };
        grown = omega arith;
        same = λ n h. take-set-le n l s.found s.position h;
        is = λ P a b r.
            step_writes P s.position s.found l s.tried s.rounds (d.is P a b)
            ∙ ap (λ (n : ℕ). work (s.position + 1) (s.found + 1) (set l s.found s.position) (s.tried + 1) (s.rounds + n)) r;
      }

-- ---- up to 64 scenarios

-- A lane of the explanations that are new to some entries.
new_in_lane : {P : Problem} {k p explained unlisted : ℕ} {rounds entries : List ℕ} → Without k p entries explained unlisted
    → InLanes P k p explained rounds → (l : ℕ) → l < 64 → new_to P entries (p + l) ≡ lane_bit l unlisted
unfolding new_to
new_in_lane {P} {k} {p} {explained} {entries = entries} w i l h =
    rw (i.abducibles, ← i.explains l h) (sym (w.at l h))

module _ {k total explained : ℕ} {rounds : List ℕ} where
  pub lanes_none : {s : Progress} {l : List ℕ} → Kept total s l → LanesTried k total explained rounds 0 s l s l
  lanes_none {s} {l} h = record {
    advance = record { kept = h; size = refl; least = omega arith; most = omega arith; moved = omega arith };
    is = λ P i. steps_zero P (work_of s l);
  }

  module _ {lane : ℕ} {s₀ : Progress} {l₀ : List ℕ} {s : Progress} {l : List ℕ} where
    -- One more lane, where each before it was tried.
    pub lanes_next : LanesTried k total explained rounds lane s₀ l₀ s l → s.tried ≡ s₀.tried + lane → lane < 64
        → {first unlisted : ℕ} → Without k s₀.position (take first l₀) explained unlisted → take first l ≡ take first l₀
        → {new : Bool} → new ≡ lane_bit lane unlisted
        → {s' : Progress} {l' : List ℕ} → LaneTried k total first new (get_or rounds lane 0) s l s' l'
        → LanesTried k total explained rounds (lane + 1) s₀ l₀ s' l'
    lanes_next so_far all inside {first} w kept {new} q one =
        let g = so_far.advance in
        let h = one.advance in
        let at : s.position ≡ s₀.position + lane = omega arith in
        record {
          advance = record { kept = h.kept; size = h.size ∙ g.size; least = omega arith; most = omega arith; moved = omega arith };
          is = λ P i.
              ap (λ (n : ℕ). steps P n (work_of s₀ l₀)) (add-one lane) ∙ steps_last P lane (work_of s₀ l₀) ∙ ap (step P) (so_far.is P i)
              ∙ one.is P i.abducibles (rw (at, kept) (new_in_lane w i lane inside) ∙ sym q)
              (ap P.rounds at ∙ sym (i.costs lane inside));
        }

    -- Where fewer were tried than there were lanes, the other lanes change nothing.
    pub lanes_short : {count : ℕ} → LanesTried k total explained rounds lane s₀ l₀ s l → lane ≤ count → s.tried < s₀.tried + lane
        → LanesTried k total explained rounds count s₀ l₀ s l
    lanes_short {count} so_far h few =
        let g = so_far.advance in
        record {
          advance = record { kept = g.kept; size = g.size; least = g.least; most = omega arith; moved = g.moved };
          is = λ P i.
              let e = so_far.is P i in
              steps_short P lane count (work_of s₀ l₀) h (rw e few) ∙ e;
        }

-- Each lane below this one was tried, and the first entries, which all lanes are compared with at once, stay.
pub record SoFar (k total explained : ℕ) (rounds : List ℕ) (first lane : ℕ) (s₀ : Progress) (l₀ : List ℕ) (s : Progress) (l : List ℕ)
    : Type 0 where
  pub all : s.tried ≡ s₀.tried + lane
  pub compared : first ≤ s.found
  pub same : take first l ≡ take first l₀
  pub steps : LanesTried k total explained rounds lane s₀ l₀ s l

module _ {k total explained : ℕ} {rounds : List ℕ} {first lane : ℕ} {s₀ : Progress} {l₀ : List ℕ} {s : Progress} {l : List ℕ}
    (so_far : SoFar k total explained rounds first lane s₀ l₀ s l) (inside : lane < 64)
    {unlisted : ℕ} (w : Without k s₀.position (take first l₀) explained unlisted) {new : Bool} (q : new ≡ lane_bit lane unlisted)
    {s' : Progress} {l' : List ℕ} (one : LaneTried k total first new (get_or rounds lane 0) s l s' l') where
  with_this : LanesTried k total explained rounds (lane + 1) s₀ l₀ s' l'
  with_this = lanes_next so_far.steps so_far.all inside w so_far.same q one

  -- This one is tried too,
  pub so_far_more : s'.tried ≡ s.tried + 1 → SoFar k total explained rounds first (lane + 1) s₀ l₀ s' l'
  so_far_more more =
      let before = so_far.all in
      let compared = so_far.compared in
      let grown = one.grown in
      record { all = omega arith; compared = omega arith; same = one.same _ compared ∙ so_far.same; steps = with_this }

  -- or it stands still.
  pub so_far_ends : {count : ℕ} → lane < count → s'.tried ≡ s.tried → LanesTried k total explained rounds count s₀ l₀ s' l'
  so_far_ends h still = let before = so_far.all in lanes_short with_this (omega arith) (omega arith)
