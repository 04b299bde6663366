-- The abducibles, listed atom by atom.
-- Assumes nothing.
use mathlib.Core.Path.{◌≡◌, refl, sym, ap, ◌∙◌}
use mathlib.Core.Bool.{Bool, true, false, cond}
use mathlib.Core.List.{List, [], ◌∷◌, ◌++◌, append-nil}
use Prim.Native.Nat.{ℕ, zero, suc, ◌+◌, ◌≤◌}
use native.Mathlib.Omega.{arith}
use lib.ListN.{length, get_or, set, length-append}
use Rattle.text.specs.Typed.{rising_from}
use Rattle.text.specs.LineNumbers.{padded}
use Rattle.text.proofs.Gathering.{padded_more}
use Rattle.importing.specs.Passes.{Flagged, flagged_from}

-- One atom more.
flagged_more : (flags : List Bool) (n atom : ℕ) → flagged_from flags atom (n + 1)
    ≡ flagged_from flags atom n ++ cond (get_or flags (atom + n) false) ((atom + n) ∷ []) []
unfolding flagged_from
flagged_more flags zero atom = let z : atom + 0 ≡ atom = omega arith in rw z (go (get_or flags atom false))
  where
    go : (t : Bool) → cond t (atom ∷ []) [] ≡ [] ++ cond t (atom ∷ []) []
    go true = refl
    go false = refl
flagged_more flags (suc n) atom =
    let e : suc n + 1 ≡ suc (n + 1) = omega arith in
    let s : atom + 1 + n ≡ atom + suc n = omega arith in
    rw e (go (get_or flags atom false) (rw s at (flagged_more flags n (atom + 1))))
  where
    go : (t : Bool) → flagged_from flags (atom + 1) (n + 1)
        ≡ flagged_from flags (atom + 1) n ++ cond (get_or flags (atom + suc n) false) ((atom + suc n) ∷ []) []
        → cond t (atom ∷ flagged_from flags (atom + 1) (n + 1)) (flagged_from flags (atom + 1) (n + 1))
        ≡ cond t (atom ∷ flagged_from flags (atom + 1) n) (flagged_from flags (atom + 1) n) ++ cond (get_or flags (atom + suc n) false) ((atom + suc n) ∷ []) []
    go true ih = ap (λ (l : List ℕ). atom ∷ l) ih
    go false ih = ih

pub flagged_few : (flags : List Bool) (atom n : ℕ) → length (flagged_from flags atom n) ≤ n
unfolding flagged_from
flagged_few flags atom zero = omega arith
flagged_few flags atom (suc n) = go (get_or flags atom false) (flagged_few flags (atom + 1) n)
  where
    go : (t : Bool) → length (flagged_from flags (atom + 1) n) ≤ n
        → length (cond t (atom ∷ flagged_from flags (atom + 1) n) (flagged_from flags (atom + 1) n)) ≤ suc n
    go true h = omega arith
    go false h = omega arith

module _ (flags : List Bool) (n : ℕ) where
  abbrev before : List ℕ
  before = flagged_from flags 0 n

  abbrev after : List ℕ
  after = flagged_from flags 0 (n + 1)

  step : after ≡ before ++ cond (get_or flags n false) (n ∷ []) []
  step = let z : 0 + n ≡ n = omega arith in rw z at (flagged_more flags n 0)

  module _ {count : ℕ} {numbers : List ℕ} (c : count ≡ length before) (l : numbers ≡ padded 17 before) where
    pub one_listed : get_or flags n false ≡ true → (count + 1 ≡ length after) × (set numbers count n ≡ padded 17 after)
    one_listed h =
        let grown : after ≡ before ++ (n ∷ []) = step ∙ ap (λ (t : Bool). before ++ cond t (n ∷ []) []) h in
        let size : length (before ++ (n ∷ [])) ≡ length before + 1 = length-append before (n ∷ []) in (
          omega (arith, c, size, ap length grown),
          ap (λ (x : List ℕ). set x count n) l ∙ ap (λ (k : ℕ). set (padded 17 before) k n) c ∙ sym (padded_more 17 before n) ∙ ap (padded 17) (sym grown),
        )

    pub none_listed : get_or flags n false ≡ false → (count ≡ length after) × (numbers ≡ padded 17 after)
    none_listed h =
        let same : after ≡ before = step ∙ ap (λ (t : Bool). before ++ cond t (n ∷ []) []) h ∙ append-nil before in
        (c ∙ ap length (sym same), l ∙ ap (padded 17) (sym same))

-- The flags are those of the names: the flagged atoms are the names, rising.
pub flagged_rising : (flags : List Bool) (names : List ℕ) → Flagged flags names → (atom n : ℕ) → flagged_from flags atom n ≡ rising_from names atom n
unfolding flagged_from rising_from
flagged_rising flags names f atom zero = refl
flagged_rising flags names f atom (suc n) = rw (f atom, flagged_rising flags names f (atom + 1) n)
