-- Laws of lists that the library lacks: properties of every element under `map`, and what stands after a part.
-- Assumes nothing.
use mathlib.Core.Path.{◌≡◌, refl, sym, ap, ◌∙◌}
use mathlib.Core.List.{List, [], ◌∷◌, ◌++◌, map}
use Prim.Native.Nat.{ℕ, zero, suc, ◌+◌, ◌-◌, ◌<◌}
use native.Mathlib.Decide.{ℕ_discrete}
use native.Mathlib.Omega.{arith}
use lib.ListN.{length, get_or, take, drop, set, replicate}
use lib.Seq.{take-nil, drop-drop, drop_at, get_or-drop, get_or-set_same, get_or-set_other}
use Rattle.papers.specs.Valid.{All, none, each}

module _ {A B : Type 0} {P : A → Type 0} where
  pub all_map : {Q : B → Type 0} (f : A → B) → ((a : A) → P a → Q (f a)) → {l : List A} → All P l → All Q (map f l)
  all_map f h none = none
  all_map f h (each {a} {more} p rest) = each (h a p) (all_map f h rest)

  -- A map that is undone where the property holds.
  pub map_undone : (f : A → B) (g : B → A) → ((a : A) → P a → g (f a) ≡ a) → {l : List A} → All P l → map g (map f l) ≡ l
  map_undone f g h none = refl
  map_undone f g h (each {a} {more} p rest) =
      let one = h a p in
      let ih = map_undone f g h rest in
      cc

pub all_each : {A : Type 0} {P Q : A → Type 0} → ((a : A) → P a → Q a) → {l : List A} → All P l → All Q l
all_each h none = none
all_each h (each {a} {more} p rest) = each (h a p) (all_each h rest)

-- The first and the others.
pub first_of : {A : Type 0} {P : A → Type 0} {a : A} {more : List A} → All P (a ∷ more) → P a × All P more
first_of (each p rest) = (p, rest)

-- What stands after a part that stands at a place.
pub drop_after : {A : Type 0} (place size : ℕ) (list part rest : List A) → drop place list ≡ part ++ rest → length part ≡ size
    → drop (place + size) list ≡ rest
drop_after place size list part rest e l = sym (drop-drop size place list) ∙ rw e (drop_at part rest size l)

-- An element of a list that was mapped: where there is one, no default matters.
pub get_or_map_lt : {A B : Type 0} (f : A → B) (l : List A) (i : ℕ) (x : B) (d : A) → i < length l → get_or (map f l) i x ≡ f (get_or l i d)
get_or_map_lt f [] i x d h = absurd (omega arith)
get_or_map_lt f (a ∷ more) zero x d h = refl
get_or_map_lt f (a ∷ more) (suc i) x d h = get_or_map_lt f more i x d (omega arith)

-- A part of a part.
pub drop_take : {A : Type 0} (k n : ℕ) (l : List A) → drop k (take n l) ≡ take (n - k) (drop k l)
drop_take zero n l = ap (λ (m : ℕ). take m l) (let e : n ≡ n - 0 = omega arith in e)
drop_take (suc k) zero l = let e : 0 - suc k ≡ 0 = omega arith in rw e
drop_take (suc k) (suc n) [] = sym (take-nil (suc n - suc k))
drop_take (suc k) (suc n) (x ∷ l) = drop_take k n l ∙ ap (λ (m : ℕ). take m (drop k l)) (let e : n - k ≡ suc n - suc k = omega arith in e)

-- One more element is set to what a function says of its index.
pub set_more : (l : List ℕ) (i v : ℕ) (f : ℕ → ℕ) → i < length l → v ≡ f i → ((j : ℕ) → j < i → get_or l j 0 ≡ f j)
    → (j : ℕ) → j < i + 1 → get_or (set l i v) j 0 ≡ f j
set_more l i v f within e below j h = elim (ℕ_discrete j i) [
  | yes q ↦ rw q (get_or-set_same l i v 0 within ∙ e)
  | no q ↦ get_or-set_other l i j v 0 q ∙ below j (omega arith)
]

-- In a row of zeros there are none but zeros, within and past its end.
pub get_or_zeros : (n i : ℕ) → ◌≡◌ {A = ℕ} (get_or (replicate n 0) i 0) 0
get_or_zeros zero i = refl
get_or_zeros (suc n) zero = refl
get_or_zeros (suc n) (suc i) = get_or_zeros n i

-- What stands at a place, and after it.
module _ {A : Type 0} (all : List A) (j : ℕ) {first : A} {more : List A} (e : drop j all ≡ first ∷ more) where
  pub at_place : (d : A) → get_or all j d ≡ first
  at_place d = let z : j + 0 ≡ j = omega arith in rw (← z, ← get_or-drop j all 0 d, e)

  pub past_place : drop (j + 1) all ≡ more
  past_place = sym (drop-drop 1 j all) ∙ rw e
