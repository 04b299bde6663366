-- Laws of the sets of flags: what is in a set that a test makes, in a complement; inclusion; how many are in; equality.
-- Assumes nothing.
use mathlib.Core.Path.{◌≡◌, refl, sym, ap, ◌∙◌}
use mathlib.Core.Bool.{Bool, true, false, not}
use mathlib.Core.List.{[], ◌∷◌}
use mathlib.Core.Logic.{◌⊎◌, inl, inr, ⊎_elim}
use Prim.Native.Nat.{ℕ, zero, suc, ◌+◌, ◌≤◌, ◌<◌, suc-le-suc}
use native.Mathlib.Nat.{add-zero, zero-add, not-suc-le-zero, le_of_suc-le-suc}
use native.Mathlib.Omega.{arith}
use lib.Dec.{T, T_not, not_T}
use lib.ListN.{length, length-replicate}
use lib.Seq.{ext_get_or}
use Rattle.papers.specs.Tests.{◌and◌}
use Rattle.model.specs.Sets.{Set, has, flags_from, set_of, empty, full, complement, same_flag, same_set}

-- Every member of s is one of t.
pub record Sub (s t : Set) : Type 0 where
  pub at : (o : ℕ) → T (has s o) → T (has t o)

-- ---- a set that a test makes

module _ (test : ℕ → Bool) where
  pub length_flags : (n i : ℕ) → length (flags_from test n i) ≡ n
  unfolding flags_from
  length_flags zero i = refl
  length_flags (suc n) i = ap suc (length_flags n (suc i))

  has_flags : (n i k : ℕ) → k < n → has (flags_from test n i) k ≡ test (i + k)
  unfolding flags_from
  has_flags zero i k h = absurd (not-suc-le-zero h)
  has_flags (suc n) i zero h = ap test (sym (add-zero i))
  has_flags (suc n) i (suc k) h = has_flags n (suc i) k (le_of_suc-le-suc h) ∙ ap test (omega arith)

  pub length_set_of : (n : ℕ) → length (set_of n test) ≡ n
  length_set_of n = length_flags n 0

  pub has_set_of : (n o : ℕ) → o < n → has (set_of n test) o ≡ test o
  has_set_of n o h = has_flags n 0 o h ∙ ap test (zero-add o)

-- A member stands within the list.
pub has_within : (s : Set) (o : ℕ) → T (has s o) → o < length s
has_within [] o t = absurd t
has_within (a ∷ s) zero t = omega arith
has_within (a ∷ s) (suc o) t = suc-le-suc (has_within s o t)

pub set_of_in : (n : ℕ) (test : ℕ → Bool) (o : ℕ) → T (has (set_of n test) o) → (o < n) × T (test o)
set_of_in n test o t =
    let w = has_within (set_of n test) o t in
    let l = length_set_of test n in
    let h : o < n = omega arith in
    (h, rw (has_set_of test n o h) at t)

pub set_of_of : (n : ℕ) (test : ℕ → Bool) (o : ℕ) → o < n → T (test o) → T (has (set_of n test) o)
set_of_of n test o h t = rw (has_set_of test n o h) t

-- A larger test makes a larger set.
pub set_of_mono : (n : ℕ) (f g : ℕ → Bool) → ((o : ℕ) → T (f o) → T (g o)) → Sub (set_of n f) (set_of n g)
set_of_mono n f g h = record { at = λ o t. let k = set_of_in n f o t in set_of_of n g o k.0 (h o k.1) }

-- ---- equality

-- Two sets of n flags are equal if they agree at every o below n.
pub set_ext : (n : ℕ) (s t : Set) → length s ≡ n → length t ≡ n → ((o : ℕ) → o < n → has s o ≡ has t o) → s ≡ t
set_ext n s t hs ht h = ext_get_or false s t (hs ∙ sym ht) (λ o l. h o (omega arith))

pub same_set_eq : (s t : Set) → T (same_set s t) → s ≡ t
unfolding same_set same_flag ◌and◌
same_set_eq [] [] h = refl
same_set_eq [] (b ∷ t) h = absurd h
same_set_eq (a ∷ s) [] h = absurd h
same_set_eq (true ∷ s) (true ∷ t) h = ap (λ (r : Set). true ∷ r) (same_set_eq s t h)
same_set_eq (true ∷ s) (false ∷ t) h = absurd h
same_set_eq (false ∷ s) (true ∷ t) h = absurd h
same_set_eq (false ∷ s) (false ∷ t) h = ap (λ (r : Set). false ∷ r) (same_set_eq s t h)

pub same_set_refl : (s : Set) → T (same_set s s)
unfolding same_set same_flag ◌and◌
same_set_refl [] = tt
same_set_refl (true ∷ s) = same_set_refl s
same_set_refl (false ∷ s) = same_set_refl s

-- ---- the empty set, the full one, the complement

pub length_empty : (n : ℕ) → length (empty n) ≡ n
unfolding empty
length_empty n = length-replicate n _

pub length_full : (n : ℕ) → length (full n) ≡ n
unfolding full
length_full n = length-replicate n _

pub empty_out : (n o : ℕ) → T (has (empty n) o) → ⊥
unfolding empty
empty_out zero o t = t
empty_out (suc n) zero t = t
empty_out (suc n) (suc o) t = empty_out n o t

pub full_in : (n o : ℕ) → o < n → T (has (full n) o)
unfolding full
full_in zero o h = absurd (not-suc-le-zero h)
full_in (suc n) zero h = tt
full_in (suc n) (suc o) h = full_in n o (le_of_suc-le-suc h)

module _ (n : ℕ) (s : Set) where
  pub length_complement : length (complement n s) ≡ n
  unfolding complement
  length_complement = length_set_of _ n

  pub has_complement : (o : ℕ) → o < n → has (complement n s) o ≡ not (has s o)
  unfolding complement
  has_complement o h = has_set_of _ n o h

  pub complement_in : (o : ℕ) → T (has (complement n s) o) → (o < n) × (T (has s o) → ⊥)
  unfolding complement
  complement_in o t = let k = set_of_in n (λ q. not (has s q)) o t in (k.0, T_not (has s o) k.1)

  pub complement_of : (o : ℕ) → o < n → (T (has s o) → ⊥) → T (has (complement n s) o)
  unfolding complement
  complement_of o h k = set_of_of n (λ q. not (has s q)) o h (not_T (has s o) k)

-- The complement of the complement is the set.
pub complement_twice : (n : ℕ) (s : Set) → length s ≡ n → complement n (complement n s) ≡ s
complement_twice n s e = set_ext n (complement n (complement n s)) s (length_complement n (complement n s)) e agree where
  twice : (b : Bool) → not (not b) ≡ b
  twice true = refl
  twice false = refl

  agree : (o : ℕ) → o < n → has (complement n (complement n s)) o ≡ has s o
  agree o h = has_complement n (complement n s) o h ∙ ap not (has_complement n s o h) ∙ twice (has s o)

-- The complement shrinks where the set grows.
pub complement_mono : (n : ℕ) {s t : Set} → Sub s t → Sub (complement n t) (complement n s)
complement_mono n {s} {t} h = record {
  at = λ o u. let k = complement_in n t o u in complement_of n s o k.0 (λ v. k.1 (h.at o v));
}

pub full_complement : (n : ℕ) → full n ≡ complement n (empty n)
full_complement n = set_ext n (full n) (complement n (empty n)) (length_full n) (length_complement n (empty n)) agree where
  yes_no : (a b : Bool) → T a → (T b → ⊥) → a ≡ not b
  yes_no true true h k = absurd (k tt)
  yes_no true false h k = refl
  yes_no false b h k = absurd h

  agree : (o : ℕ) → o < n → has (full n) o ≡ has (complement n (empty n)) o
  agree o h = yes_no (has (full n) o) (has (empty n) o) (full_in n o h) (empty_out n o) ∙ sym (has_complement n (empty n) o h)

-- ---- inclusion

pub sub_refl : {s : Set} → Sub s s
sub_refl = record { at = λ o x. x }

pub sub_trans : {s t u : Set} → Sub s t → Sub t u → Sub s u
sub_trans h k = record { at = λ o x. k.at o (h.at o x) }

pub empty_sub : (n : ℕ) (s : Set) → Sub (empty n) s
empty_sub n s = record { at = λ o t. absurd (empty_out n o t) }

pub sub_full : (n : ℕ) (s : Set) → length s ≡ n → Sub s (full n)
sub_full n s e = record { at = λ o t. let w = has_within s o t in full_in n o (omega arith) }

sub_tail : {a b : Bool} {s t : Set} → Sub (a ∷ s) (b ∷ t) → Sub s t
sub_tail h = record { at = λ o x. h.at (suc o) x }

-- ---- how many are in

unfoldable pub count : Set → ℕ
count [] = 0
count (true ∷ s) = suc (count s)
count (false ∷ s) = count s

pub count_le : (s : Set) → count s ≤ length s
unfolding count
count_le [] = omega arith
count_le (true ∷ s) = suc-le-suc (count_le s)
count_le (false ∷ s) = let h = count_le s in omega arith

-- A set that is in another of as many flags is that one, or has fewer members.
pub grows : (s t : Set) → length s ≡ length t → Sub s t → (t ≡ s) ⊎ (count s < count t)
unfolding count
grows [] [] e h = inl refl
grows [] (b ∷ t) e h = absurd (omega arith)
grows (a ∷ s) [] e h = absurd (omega arith)
grows (true ∷ s) (true ∷ t) e h = ⊎_elim (λ q. inl (cc)) (λ l. inr (omega arith)) (grows s t (omega arith) (sub_tail h))
grows (true ∷ s) (false ∷ t) e h = absurd (h.at 0 tt)
grows (false ∷ s) (true ∷ t) e h =
    ⊎_elim (λ q. inr (omega (arith, ap count q))) (λ l. inr (omega arith)) (grows s t (omega arith) (sub_tail h))
grows (false ∷ s) (false ∷ t) e h = ⊎_elim (λ q. inl (cc)) (λ l. inr (omega arith)) (grows s t (omega arith) (sub_tail h))

-- Two sets of as many flags that are in each other are one.
pub sub_antisym : (s t : Set) → length s ≡ length t → Sub s t → Sub t s → s ≡ t
sub_antisym s t e h k =
    ⊎_elim (λ q. sym q) (λ l. ⊎_elim (λ q. q) (λ m. absurd (omega arith)) (grows t s (sym e) k)) (grows s t e h)
