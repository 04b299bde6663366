-- Numbers that are laid in an array: none, one more, and one part more.
-- Assumes nothing.
use mathlib.Core.Path.{◌≡◌, refl, sym, ap, ◌∙◌}
use mathlib.Core.List.{List, [], ◌∷◌, ◌++◌, append_assoc}
use Prim.Native.Nat.{ℕ, ◌+◌, ◌≤◌, ◌<◌}
use native.Mathlib.Omega.{arith}
use lib.ListN.{length, get_or, take, drop, set, length-append, length-set}
use lib.Seq.{length-take-le, set_at, set-get_or}
use Rattle.dual.specs.Bytes.{filled}
use Rattle.dual.proofs.FilledLaws.{filled_set, filled_again, filled_whole}
use Rattle.copying.specs.Laid.{laid}

-- From the start on the array is filled.
pub laid_first : (row before : List ℕ) → laid 0 row before ≡ filled row before
unfolding laid
laid_first row before = refl

pub laid_none : (at : ℕ) (before : List ℕ) → at ≤ length before → laid at [] before ≡ before
unfolding laid
laid_none at before h = filled_whole at before h

module _ (at : ℕ) (row before : List ℕ) where
  prefix_length : at ≤ length before → length (take at before ++ row) ≡ at + length row
  prefix_length h = let t = length-take-le at before h in length-append (take at before) row ∙ ap (λ (k : ℕ). k + length row) t

  pub laid_one : (place v : ℕ) → place ≡ at + length row → place < length before → set (laid at row before) place v ≡ laid at (row ++ v ∷ []) before
  unfolding laid
  laid_one place v e h =
      let p = prefix_length (omega arith) in
      let q : place ≡ length (take at before ++ row) = omega arith in
      ap (λ (k : ℕ). set (filled (take at before ++ row) before) k v) q
      ∙ filled_set (take at before ++ row) before v (omega arith)
      ∙ ap (λ (l : List ℕ). filled l before) (append_assoc (take at before) row (v ∷ []))

  pub laid_part : (more : List ℕ) (place : ℕ) → place ≡ at + length row → place ≤ length before
      → laid place more (laid at row before) ≡ laid at (row ++ more) before
  unfolding laid
  laid_part more place e h =
      let p = prefix_length (omega arith) in
      let q : place ≡ length (take at before ++ row) = omega arith in
      ap (λ (k : ℕ). filled (take k (filled (take at before ++ row) before) ++ more) (filled (take at before ++ row) before)) q
      ∙ filled_again (take at before ++ row) more before (omega arith)
      ∙ ap (λ (l : List ℕ). filled l before) (append_assoc (take at before) row more)

-- ---- a row whose first number, or first two, are written by themselves

pub laid_after : (at x : ℕ) (before more : List ℕ) → at + (1 + length more) ≤ length before
    → laid (at + 1) more (set before at x) ≡ laid at (x ∷ more) before
laid_after at x before more room =
    ap (λ (l : List ℕ). laid (at + 1) more (set l at x)) (sym (laid_none at before (omega arith)))
    ∙ ap (laid (at + 1) more) (laid_one at [] before at x (omega arith) (omega arith))
    ∙ laid_part at (x ∷ []) before more (at + 1) (omega arith) (omega arith)

module _ (at x : ℕ) (before more : List ℕ) (room : at + (2 + length more) ≤ length before) where
  -- The second before the others,
  pub laid_row : (y : ℕ) → laid (at + 2) more (set (set before at x) (at + 1) y) ≡ laid at (x ∷ y ∷ more) before
  laid_row y =
      let e : at + 2 ≡ at + 1 + 1 = omega arith in
      ap (λ (k : ℕ). laid k more (set (set before at x) (at + 1) y)) e
      ∙ laid_after (at + 1) y (set before at x) more (let l = length-set before at x in omega arith)
      ∙ laid_after at x before (y ∷ more) (omega arith)

  second : (y z : ℕ) → set (laid at (x ∷ z ∷ more) before) (at + 1) y ≡ laid at (x ∷ y ∷ more) before
  unfolding laid
  second y z =
      let start = take at before in
      let t : length start ≡ at = length-take-le at before (omega arith) in
      let first : length (start ++ x ∷ []) ≡ at + 1 = length-append start (x ∷ []) ∙ ap (λ (k : ℕ). k + 1) t in
      let n = length-append start (x ∷ z ∷ more) in
      let m = length-append start (x ∷ y ∷ more) in
      let same : length (start ++ x ∷ z ∷ more) ≡ length (start ++ x ∷ y ∷ more) = omega arith in
      let after = drop (length (start ++ x ∷ y ∷ more)) before in
      ap (λ (k : ℕ). set ((start ++ x ∷ z ∷ more) ++ drop k before) (at + 1) y) same
      ∙ ap (λ (l : List ℕ). set l (at + 1) y) (append_assoc start (x ∷ z ∷ more) after ∙ sym (append_assoc start (x ∷ []) (z ∷ more ++ after)))
      ∙ set_at (start ++ x ∷ []) z (more ++ after) y (at + 1) first
      ∙ append_assoc start (x ∷ []) (y ∷ more ++ after)
      ∙ sym (append_assoc start (x ∷ y ∷ more) after)

  -- or after them.
  pub laid_row_late : (y : ℕ) → set (laid (at + 2) more (set before at x)) (at + 1) y ≡ laid at (x ∷ y ∷ more) before
  laid_row_late y =
      let z = get_or (set before at x) (at + 1) 0 in
      ap (λ (l : List ℕ). set (laid (at + 2) more l) (at + 1) y) (sym (set-get_or (set before at x) (at + 1) 0))
      ∙ ap (λ (l : List ℕ). set l (at + 1) y) (laid_row z)
      ∙ second y z
