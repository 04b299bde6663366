-- Test 14: what it tells where it is passed, and that every record that a search reaches passes it.
-- Assumes nothing.
use mathlib.Core.Path.{◌≡◌}
use mathlib.Core.Bool.{true, false, not}
use mathlib.Core.List.{List, [], ◌∷◌, ◌++◌}
use mathlib.Core.Logic.{inl, inr}
use Prim.Native.Nat.{ℕ, zero, suc, ◌+◌, ◌-◌, ◌≤◌}
use native.Mathlib.Omega.{arith}
use borrow.Author.Tests.{ltb-false, le-ltb, not-false}
use lib.Dec.{T, leb, ltb, leb→le, le→leb, ltb→lt, lt→ltb}
use lib.ListN.{length, take}
use lib.Seq.{length-take-le}
use Rattle.papers.specs.Tests.{◌or◌}
use Rattle.papers.proofs.TestLaws.{both, left, right, decided, neither, is_true, passes}
use Rattle.steps.specs.Explanations.{Problem, scenarios, minimal, minimals, stop}
use Rattle.steps.specs.Continuing.{Record}
use Rattle.steps.specs.Spoilt.{rising, all_below, spoilt_by, spoilt}
use Rattle.steps.proofs.Minimals.{minimals_zero, minimals_yes, minimals_no}
use Rattle.steps.proofs.Stopping.{stop_le, stop_count}
use Rattle.steps.proofs.Canonical.{record_at, list_at, list_at_found, list_at_length}

-- ---- what the test tells

-- A record and a list that pass test 14.
pub record Sound (P : Problem) (r : Record) (list : List ℕ) : Type 0 where
  pub within : r.position ≤ scenarios P
  pub held : r.found ≤ length list
  pub rises : rising 0 (take r.found list) ≡ true
  pub below : all_below r.position (take r.found list) ≡ true

pub unspoilt_tells : (P : Problem) (r : Record) (list : List ℕ) → spoilt P r list ≡ false → Sound P r list
unfolding spoilt_by
unspoilt_tells P r list e =
    let a = neither (ltb (scenarios P) r.position) _ e in
    let b = neither (ltb (length list) r.found) _ a.1 in
    let c = neither (not (rising 0 (take r.found list))) _ b.1 in
    record {
      within = ltb-false (scenarios P) r.position a.0;
      held = ltb-false (length list) r.found b.0;
      rises = not-false (rising 0 (take r.found list)) c.0;
      below = not-false (all_below r.position (take r.found list)) c.1;
    }

pub sound_unspoilt : (P : Problem) (r : Record) (list : List ℕ) → Sound P r list → spoilt P r list ≡ false
unfolding spoilt_by ◌or◌
sound_unspoilt P r list s =
    rw (le-ltb (scenarios P) r.position s.within, le-ltb (length list) r.found s.held, s.rises, s.below)

-- Numbers that rise strictly from `least` on and are below p are at most p - least many.
rising_few : (least p : ℕ) (xs : List ℕ) → T (rising least xs) → T (all_below p xs) → length xs ≤ p - least
unfolding rising all_below
rising_few least p [] h g = omega arith
rising_few least p (x ∷ xs) h g =
    let a = leb→le least x (left (leb least x) _ h) in
    let b = ltb→lt x p (left (ltb x p) _ g) in
    let ih = rising_few (x + 1) p xs (right (leb least x) _ h) (right (ltb x p) _ g) in
    omega arith

-- The bounds that a passed test 14 gives.
pub record Bounded (P : Problem) (r : Record) (list : List ℕ) : Type 0 where
  pub within : r.position ≤ scenarios P
  pub held : r.found ≤ length list
  pub few : r.found ≤ r.position

pub sound_bounded : (P : Problem) (r : Record) (list : List ℕ) → Sound P r list → Bounded P r list
sound_bounded P r list s =
    let xs = take r.found list in
    let n = length-take-le r.found list s.held in
    let few = rising_few 0 r.position xs (passes (rising 0 xs) s.rises) (passes (all_below r.position xs) s.below) in
    record { within = s.within; held = s.held; few = omega arith }

pub unspoilt_bounded : (P : Problem) (r : Record) (list : List ℕ) → spoilt P r list ≡ false → Bounded P r list
unspoilt_bounded P r list e = sound_bounded P r list (unspoilt_tells P r list e)

-- ---- the minimal explanations below p rise, and are below p

pub rising_last : (least : ℕ) (xs : List ℕ) (p : ℕ) → least ≤ p → T (rising least xs) → T (all_below p xs) → T (rising least (xs ++ p ∷ []))
unfolding rising all_below
rising_last least [] p l h g = both (leb least p) true (le→leb least p l) tt
rising_last least (x ∷ xs) p l h g =
    let b = ltb→lt x p (left (ltb x p) _ g) in
    both (leb least x) _ (left (leb least x) _ h) (rising_last (x + 1) xs p (omega arith) (right (leb least x) _ h) (right (ltb x p) _ g))

pub below_wider : (xs : List ℕ) (p : ℕ) → T (all_below p xs) → T (all_below (suc p) xs)
unfolding all_below
below_wider [] p h = tt
below_wider (x ∷ xs) p h =
    let b = ltb→lt x p (left (ltb x p) _ h) in
    both (ltb x (suc p)) _ (lt→ltb x (suc p) (omega arith)) (below_wider xs p (right (ltb x p) _ h))

pub below_last : (xs : List ℕ) (p : ℕ) → T (all_below p xs) → T (all_below (suc p) (xs ++ p ∷ []))
unfolding all_below
below_last [] p h = both (ltb p (suc p)) true (lt→ltb p (suc p) (omega arith)) tt
below_last (x ∷ xs) p h =
    let b = ltb→lt x p (left (ltb x p) _ h) in
    both (ltb x (suc p)) _ (lt→ltb x (suc p) (omega arith)) (below_last xs p (right (ltb x p) _ h))

module _ (P : Problem) where
  pub minimals_below : (p : ℕ) → T (all_below p (minimals P p))
  unfolding all_below
  minimals_below zero = rw (minimals_zero P) tt
  minimals_below (suc p) = elim (decided (minimal P p)) [
    | inl y ↦ rw (minimals_yes P p y) (below_last (minimals P p) p (minimals_below p))
    | inr o ↦ rw (minimals_no P p o) (below_wider (minimals P p) p (minimals_below p))
  ]

  pub minimals_rising : (p : ℕ) → T (rising 0 (minimals P p))
  unfolding rising
  minimals_rising zero = rw (minimals_zero P) tt
  minimals_rising (suc p) = elim (decided (minimal P p)) [
    | inl y ↦ rw (minimals_yes P p y) (rising_last 0 (minimals P p) p (omega arith) (minimals_rising p) (minimals_below p))
    | inr o ↦ rw (minimals_no P p o) (minimals_rising p)
  ]

  -- ---- what a search reaches passes

  pub reached_sound : (l : List ℕ) (p : ℕ) → p ≤ stop P (length l) → Sound P (record_at P p) (list_at P l p)
  unfolding record_at
  reached_sound l p h =
      let b = stop_le P (length l) in
      let c = stop_count P (length l) p h in
      let len = list_at_length P l p h in
      record {
        within = omega arith;
        held = omega arith;
        rises = rw (list_at_found P l p) (is_true (rising 0 (minimals P p)) (minimals_rising p));
        below = rw (list_at_found P l p) (is_true (all_below p (minimals P p)) (minimals_below p));
      }

  pub reached_unspoilt : (l : List ℕ) (p : ℕ) → p ≤ stop P (length l) → spoilt P (record_at P p) (list_at P l p) ≡ false
  reached_unspoilt l p h = sound_unspoilt P (record_at P p) (list_at P l p) (reached_sound l p h)
