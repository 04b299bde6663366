-- The bytes of the model, and what they tell: each judged literal's byte, whether one is 3, and an explanation by the sets themselves.
-- Assumes nothing.
use mathlib.Core.Path.{◌≡◌, refl, sym, ap, ap₂, subst, ◌∙◌}
use mathlib.Core.Bool.{Bool, true, false, not, cond}
use mathlib.Core.List.{List, [], ◌∷◌}
use Prim.Native.Nat.{ℕ, zero, suc, ◌+◌, ◌*◌, ◌≤◌, ◌<◌}
use native.Mathlib.Nat.{not-suc-le-zero, le_of_suc-le-suc, add-zero, zero-add}
use native.Mathlib.Numerals.{add-one}
use native.Mathlib.Omega.{arith}
use lib.Dec.{T, eqb, eqb→eq, T_not}
use lib.ListN.{length, get_or}
use Rattle.literals.specs.Numbering.{objective_number, default_negated, judged, falsum}
use Rattle.literals.specs.BodyLiterals.{body_literal}
use Rattle.literals.proofs.BodyLaws.{literal_read}
use Rattle.papers.specs.Program.{Program, Query}
use Rattle.papers.specs.Valid.{All, All.none as nothing, All.each as each}
use Rattle.papers.specs.Tests.{◌and◌, ◌or◌}
use Rattle.papers.proofs.Lists.{all_each}
use Rattle.papers.proofs.TestLaws.{right, either_left, either_right, passes, is_false, or_false, false_or, or_assoc}
use Rattle.model.specs.Sets.{Set, has, flags_from, set_of}
use Rattle.model.specs.LeastSet.{literal_holds, body_holds}
use Rattle.model.specs.Model.{model, value_byte, value_bytes, model_bytes, query_literal_holds, query_holds, contradictory, explains_by, explains}
use Rattle.model.proofs.Rounds.{model_sized}

-- ---- the bytes of a pair

pub bytes_length : (n : ℕ) (trues falses : Set) → length trues ≡ n → length falses ≡ n → length (value_bytes trues falses) ≡ n
unfolding value_bytes
bytes_length n [] falses e g = e
bytes_length n (t ∷ trues) [] e g = absurd (omega arith)
bytes_length zero (t ∷ trues) (f ∷ falses) e g = absurd (omega arith)
bytes_length (suc n) (t ∷ trues) (f ∷ falses) e g = ap suc (bytes_length n trues falses (omega arith) (omega arith))

pub bytes_at : (trues falses : Set) (o : ℕ) → o < length trues → o < length falses
    → get_or (value_bytes trues falses) o 0 ≡ value_byte (has trues o) (has falses o)
unfolding value_bytes
bytes_at [] falses o h k = absurd (not-suc-le-zero h)
bytes_at (t ∷ trues) [] o h k = absurd (not-suc-le-zero k)
bytes_at (t ∷ trues) (f ∷ falses) zero h k = refl
bytes_at (t ∷ trues) (f ∷ falses) (suc o) h k = bytes_at trues falses o (le_of_suc-le-suc h) (le_of_suc-le-suc k)

-- ---- what a byte tells

-- "o: byte 1 or 3; not(o): byte 2 or 3."
byte_tells : (negated t f : Bool) → (eqb (value_byte t f) 3 or eqb (value_byte t f) (cond negated 2 1)) ≡ cond negated f t
unfolding value_byte ◌or◌
byte_tells true true true = refl
byte_tells true true false = refl
byte_tells true false true = refl
byte_tells true false false = refl
byte_tells false true true = refl
byte_tells false true false = refl
byte_tells false false true = refl
byte_tells false false false = refl

-- "Falsum's byte is 2": false, and not true besides.
byte_false : (t f : Bool) → eqb (value_byte t f) 2 ≡ (not t and f)
unfolding value_byte ◌and◌
byte_false true true = refl
byte_false true false = refl
byte_false false true = refl
byte_false false false = refl

-- Byte 3: true, and false besides.
byte_both : (t f : Bool) → eqb (value_byte t f) 3 ≡ (t and f)
unfolding value_byte ◌and◌
byte_both true true = refl
byte_both true false = refl
byte_both false true = refl
byte_both false false = refl

-- ---- any byte 3

-- Bytes are contradictory exactly where one of them is 3.
pub contradictory_at : (bytes : List ℕ) (o : ℕ) → get_or bytes o 0 ≡ 3 → T (contradictory bytes)
unfolding contradictory
contradictory_at [] o e = absurd (omega arith)
contradictory_at (byte ∷ more) zero e = either_left (eqb byte 3) (contradictory more) (subst (λ (x : ℕ). T (eqb x 3)) (sym e) tt)
contradictory_at (byte ∷ more) (suc o) e = either_right (eqb byte 3) (contradictory more) (contradictory_at more o e)

pub contradictory_only : (bytes : List ℕ) → ((o : ℕ) → get_or bytes o 0 ≡ 3 → ⊥) → contradictory bytes ≡ false
unfolding contradictory
contradictory_only [] none = refl
contradictory_only (byte ∷ more) none =
    rw (is_false (eqb byte 3) (λ t. none 0 (eqb→eq byte 3 t)))
    (false_or (contradictory more) ∙ contradictory_only more (λ o. none (suc o)))

-- Of two sets, as they grow by one literal.
module _ (a b : ℕ → Bool) where
  grown_from : (n o : ℕ) → contradictory (value_bytes (flags_from a (suc n) o) (flags_from b (suc n) o))
      ≡ (contradictory (value_bytes (flags_from a n o) (flags_from b n o)) or (a (o + n) and b (o + n)))
  unfolding contradictory value_bytes flags_from
  grown_from zero o =
      or_false (eqb (value_byte (a o) (b o)) 3)
      ∙ byte_both (a o) (b o)
      ∙ sym (false_or (a o and b o))
      ∙ ap (λ (k : ℕ). false or (a k and b k)) (sym (add-zero o))
  grown_from (suc n) o =
      let first = eqb (value_byte (a o) (b o)) 3 in
      let more = contradictory (value_bytes (flags_from a n (suc o)) (flags_from b n (suc o))) in
      let e : suc o + n ≡ o + suc n = omega arith in
      ap (λ (x : Bool). first or x) (grown_from n (suc o) ∙ ap (λ (k : ℕ). more or (a k and b k)) e)
      ∙ sym (or_assoc first more (a (o + suc n) and b (o + suc n)))

  pub contradictory_grown : (n : ℕ) → contradictory (value_bytes (set_of (n + 1) a) (set_of (n + 1) b))
      ≡ (contradictory (value_bytes (set_of n a) (set_of n b)) or (a n and b n))
  contradictory_grown n = rw add-one (grown_from n 0 ∙ rw zero-add)

-- ---- a query

module _ (n : ℕ) (trues falses : Set) (ht : length trues ≡ n) (hf : length falses ≡ n) where
  -- A number that is not FFFF is asked as a body's would be.
  query_literal : (l : ℕ) → l < 2 * n → l < 0xFFFF → query_literal_holds (value_bytes trues falses) l ≡ literal_holds false trues falses (body_literal l)
  unfolding query_literal_holds literal_holds
  query_literal l h k =
      rw (bytes_at trues falses (objective_number l) (omega arith) (omega arith), literal_read l (λ e. omega arith))
      (byte_tells (default_negated l) (has trues (objective_number l)) (has falses (objective_number l)))

  query_body : {q : Query} → All (λ l. (l < 2 * n) × (l < 0xFFFF)) q → query_holds (value_bytes trues falses) q ≡ body_holds false trues falses q
  unfolding query_holds body_holds
  query_body nothing = refl
  query_body (each {a = l} {more = more} h rest) = ap₂ ◌and◌ (query_literal l h.0 h.1) (query_body rest)

-- ---- of the model

module _ (p : Program) (s : ℕ) where
  pub model_bytes_length : length (model_bytes p s) ≡ judged p.atoms
  unfolding model_bytes
  model_bytes_length = let z = model_sized p s in bytes_length (judged p.atoms) (model p s).trues (model p s).falses z.trues z.falses

  pub model_byte : (o : ℕ) → o < judged p.atoms → get_or (model_bytes p s) o 0 ≡ value_byte (has (model p s).trues o) (has (model p s).falses o)
  unfolding model_bytes
  model_byte o h = let z = model_sized p s in bytes_at (model p s).trues (model p s).falses o (omega arith) (omega arith)

  -- No literal of an explanation's model is both true and false.
  pub explained_consistent : (q : Query) → explains p q s ≡ true → (o : ℕ) → get_or (model_bytes p s) o 0 ≡ 3 → ⊥
  unfolding explains explains_by
  explained_consistent q e o both =
      let bytes = model_bytes p s in
      let h = right _ (query_holds bytes q and not (contradictory bytes)) (passes (explains p q s) e) in
      T_not (contradictory bytes) (right (query_holds bytes q) _ h) (contradictory_at bytes o both)

  -- An explanation, by the sets: falsum false and not true, each literal of the query holding as a body's does, and no literal both.
  pub explains_is : p.atoms ≤ 256 → {q : Query} → All (◌< 4 * p.atoms) q
      → explains p q s
      ≡ ((not (has (model p s).trues (falsum p.atoms)) and has (model p s).falses (falsum p.atoms))
      and body_holds false (model p s).trues (model p s).falses q
      and not (contradictory (value_bytes (model p s).trues (model p s).falses)))
  unfolding explains explains_by
  explains_is few h =
      let z = model_sized p s in
      ap₂ ◌and◌
      (rw (model_byte (falsum p.atoms) (omega arith)) (byte_false _ _))
      (unfold model_bytes in ap (λ (x : Bool). x and not (contradictory (value_bytes (model p s).trues (model p s).falses)))
      (query_body (judged p.atoms) (model p s).trues (model p s).falses z.trues z.falses
      (all_each (λ l k. (omega arith, omega arith)) h)))
