-- A row that stands at a place: its first number, what comes after it, its parts.
-- Assumes nothing.
use mathlib.Core.Path.{◌≡◌, refl, sym, ap, ◌∙◌}
use mathlib.Core.List.{List, [], ◌∷◌, ◌++◌}
use Prim.Native.Nat.{ℕ, zero, suc, ◌+◌, ◌<◌}
use native.Mathlib.Omega.{arith}
use lib.ListN.{length, get_or, take, drop, length-append, length-drop}
use lib.Seq.{ext_get_or, get_or-take, get_or-drop, length-take-le, get_or-append-add}
use Rattle.rows.specs.Rows.{StandsAt}

module _ {x : ℕ} {row numbers : List ℕ} {place : ℕ} (s : StandsAt (x ∷ row) numbers place) where
  pub stands_first : get_or numbers place 0 ≡ x
  stands_first = let z : place + 0 ≡ place = omega arith in ap (λ (k : ℕ). get_or numbers k 0) (sym z) ∙ s.at 0 (omega arith)

  pub stands_after : StandsAt row numbers (place + 1)
  stands_after = record {
    within = let w = s.within in omega arith;
    at = λ i h.
        let e : place + 1 + i ≡ place + suc i = omega arith in
        ap (λ (k : ℕ). get_or numbers k 0) e ∙ s.at (suc i) (omega arith);
  }

module _ (first second numbers : List ℕ) (place : ℕ) (s : StandsAt (first ++ second) numbers place) where
  pub stands_front : StandsAt first numbers place
  stands_front = let l = length-append first second in record {
    within = let w = s.within in omega arith;
    at = λ i h. s.at i (omega arith) ∙ front first second i h;
  } where
    front : (a b : List ℕ) (i : ℕ) → i < length a → get_or (a ++ b) i 0 ≡ get_or a i 0
    front [] b i h = absurd (omega arith)
    front (y ∷ a) b zero h = refl
    front (y ∷ a) b (suc i) h = front a b i (omega arith)

  pub stands_rest : StandsAt second numbers (place + length first)
  stands_rest = let l = length-append first second in record {
    within = let w = s.within in omega arith;
    at = λ i h.
        let e : place + length first + i ≡ place + (length first + i) = omega arith in
        ap (λ (k : ℕ). get_or numbers k 0) e ∙ s.at (length first + i) (omega arith) ∙ get_or-append-add first second i 0;
  }

-- As a part of the numbers.
pub stands_part : (row numbers : List ℕ) (place : ℕ) → StandsAt row numbers place → take (length row) (drop place numbers) ≡ row
stands_part row numbers place s =
    let d = length-drop place numbers in
    let w = s.within in
    let l : length (take (length row) (drop place numbers)) ≡ length row = length-take-le (length row) (drop place numbers) (omega arith) in
    ext_get_or 0 (take (length row) (drop place numbers)) row l (λ i h.
    let k : i < length row = omega arith in
    get_or-take (length row) (drop place numbers) i 0 k ∙ get_or-drop place numbers i 0 ∙ s.at i k)
