-- Test 14 by the calls that code makes, and by the first of its four that fails.
-- Assumes nothing.
use mathlib.Core.Path.{◌≡◌, refl, sym}
use mathlib.Core.Bool.{Bool, true, false, not}
use mathlib.Core.List.{List, [], ◌∷◌}
use Prim.Native.Nat.{ℕ, zero, suc, ◌+◌, ◌<◌, ◌≤◌}
use native.Mathlib.Omega.{arith}
use native.Mathlib.Numerals.{add-one}
use borrow.Author.Tests.{lt-ltb, le-ltb, le-leb, lt-leb, ltb-true, ltb-false}
use lib.Dec.{ltb, leb}
use lib.ListN.{length, get_or, take}
use Rattle.std.specs.List.{IsAllAdjacentAnswer, list_all}
use Rattle.papers.specs.Tests.{◌and◌, ◌or◌}
use Rattle.papers.proofs.TestLaws.{or_true, false_and}
use Rattle.steps.specs.declared.Record.{Record}
use Rattle.steps.specs.Spoilt.{rising, all_below, spoilt_by}

-- ---- the entries

rising_holds : (xs : List ℕ) (least : ℕ) → (0 < length xs → least ≤ get_or xs 0 0)
    → ((k : ℕ) → suc k < length xs → get_or xs k 0 < get_or xs (suc k) 0) → rising least xs ≡ true
unfolding rising ◌and◌
rising_holds [] least h each = refl
rising_holds (x ∷ xs) least h each =
    let rest = rising_holds xs (x + 1) (λ l. omega (arith, each 0 (omega arith))) (λ k l. each (suc k) (omega arith)) in
    rw (le-leb least x (h (omega arith)), rest)

second_fails : (a b : Bool) → b ≡ false → (a and b) ≡ false
unfolding ◌and◌
second_fails true b e = e
second_fails false b e = refl

rising_fails : (xs : List ℕ) (least k : ℕ) → suc k < length xs → get_or xs (suc k) 0 ≤ get_or xs k 0 → rising least xs ≡ false
unfolding rising
rising_fails [] least k h e = absurd (omega arith)
rising_fails (x ∷ []) least k h e = absurd (omega arith)
rising_fails (x ∷ y ∷ xs) least zero h e =
    let f : leb (x + 1) y ≡ false = lt-leb (x + 1) y (omega arith) in
    second_fails (leb least x) _ (rw f (false_and _))
rising_fails (x ∷ y ∷ xs) least (suc k) h e =
    second_fails (leb least x) _ (rising_fails (y ∷ xs) (x + 1) k (omega arith) e)

-- What the library answers of each entry and the next.
pub rising_answer : (xs : List ℕ) (r : Bool) → IsAllAdjacentAnswer (λ x y b. b ≡ ltb x y) xs r → r ≡ rising 0 xs
rising_answer xs true h = sym (rising_holds xs 0 (λ l. omega arith) (λ k l. rw add-one at (ltb-true _ _ (sym (h k 0 (omega arith))))))
rising_answer xs false h = sym (rising_fails xs 0 h.0 (omega arith) (rw add-one at (ltb-false _ _ (sym (h.2 0)))))

-- What it answers of each entry and a position.
pub below_answer : (position : ℕ) (xs : List ℕ) → list_all (λ x. ltb x position) xs ≡ all_below position xs
unfolding all_below ◌and◌
below_answer position [] = refl
below_answer position (x ∷ xs) = rw (below_answer position xs)

-- ---- test 14, by the first of its four that fails

or_third : (a b c : Bool) → a or (b or (true or c)) ≡ true
unfolding ◌or◌
or_third true b c = refl
or_third false b c = or_true b

module _ (total : ℕ) (r : Record) (list : List ℕ) where
  pub spoilt_position : total < r.position → spoilt_by total r list ≡ true
  unfolding spoilt_by ◌or◌
  spoilt_position h = rw (lt-ltb total r.position h)

  pub spoilt_found : length list < r.found → spoilt_by total r list ≡ true
  unfolding spoilt_by ◌or◌
  spoilt_found h = rw (lt-ltb (length list) r.found h) (or_true (ltb total r.position))

  pub spoilt_rising : rising 0 (take r.found list) ≡ false → spoilt_by total r list ≡ true
  unfolding spoilt_by ◌or◌
  spoilt_rising e = rw e (or_third (ltb total r.position) (ltb (length list) r.found) (not (all_below r.position (take r.found list))))

  -- Where the first three pass, the fourth decides.
  pub spoilt_below : r.position ≤ total → r.found ≤ length list → rising 0 (take r.found list) ≡ true
      → spoilt_by total r list ≡ not (all_below r.position (take r.found list))
  unfolding spoilt_by ◌or◌
  spoilt_below h g e = rw (le-ltb total r.position h, le-ltb (length list) r.found g, e)
