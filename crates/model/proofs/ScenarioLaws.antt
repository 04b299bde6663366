-- Laws of the scenarios: an abducible literal is true, undefined or false, and no other literal is any of these; the i-th abducible has digit i.
-- Assumes nothing.
use mathlib.Core.Path.{◌≡◌, refl, sym, ap, ◌∙◌}
use mathlib.Core.Bool.{Bool, true, false, not, cond, true≢false, false≢true}
use mathlib.Core.List.{List, [], ◌∷◌}
use Prim.Native.Nat.{ℕ, zero, suc, ◌/◌, ◌%◌, ◌^◌, ◌≤◌, ◌<◌}
use native.Mathlib.Omega.{arith}
use native.Mathlib.Nat.{div-div-eq-div-mul, pow-succ'}
use borrow.Author.Tests.{ne_eqb, eq-eqb}
use lib.Dec.{eqb}
use lib.ListN.{length, get_or}
use Rattle.literals.specs.Numbering.{atom_number, explicitly_negated, judged}
use Rattle.papers.specs.Program.{Program}
use Rattle.papers.specs.Content.{is_among}
use Rattle.papers.specs.Valid.{Rising, Rising.none as flat, Rising.next as above}
use Rattle.papers.specs.Tests.{◌or◌}
use Rattle.model.specs.Sets.{has}
use Rattle.model.specs.Scenarios.{digit_of, true_abducible, undefined_abducible, false_abducible, true_abducibles, possible_abducibles}
use Rattle.model.proofs.SetLaws.{has_set_of}

-- ---- the digit of an atom

pub digit_none : (abducibles : List ℕ) (s atom : ℕ) → is_among abducibles atom ≡ false → digit_of abducibles s atom ≡ 3
unfolding is_among digit_of
digit_none [] s atom h = refl
digit_none (a ∷ more) s atom h = go (eqb a atom) h (digit_none more (s / 3) atom) where
  go : (b : Bool) → cond b true (is_among more atom) ≡ false → (is_among more atom ≡ false → digit_of more (s / 3) atom ≡ 3)
      → cond b (s % 3) (digit_of more (s / 3) atom) ≡ 3
  go true e ih = absurd (true≢false e)
  go false e ih = ih e

pub digit_small : (abducibles : List ℕ) (s atom : ℕ) → is_among abducibles atom ≡ true → digit_of abducibles s atom < 3
unfolding is_among digit_of
digit_small [] s atom h = absurd (false≢true h)
digit_small (a ∷ more) s atom h = go (eqb a atom) h (digit_small more (s / 3) atom) where
  go : (b : Bool) → cond b true (is_among more atom) ≡ true → (is_among more atom ≡ true → digit_of more (s / 3) atom < 3)
      → cond b (s % 3) (digit_of more (s / 3) atom) < 3
  go true e ih = omega arith
  go false e ih = ih e

rising_at : {least : ℕ} {l : List ℕ} → Rising least l → (i : ℕ) → i < length l → least ≤ get_or l i 0
rising_at flat i h = absurd (omega arith)
rising_at (above g rest) zero h = g
rising_at (above g rest) (suc i) h = let k = rising_at rest i (omega arith) in omega arith

-- "Digit i of s in base 3, lowest first, belongs to the i-th abducible."
pub digit_at : {least : ℕ} {abducibles : List ℕ} → Rising least abducibles → (s i : ℕ) → i < length abducibles
    → digit_of abducibles s (get_or abducibles i 0) ≡ s / 3 ^ i % 3
unfolding digit_of
digit_at flat s i h = absurd (omega arith)
digit_at (above {a} {more} g rest) s zero h =
    let e : s / 3 ^ 0 ≡ s = omega arith in
    rw (eq-eqb a a refl, e)
digit_at (above {a = a} {more = more} g rest) s (suc i) h =
    let k = rising_at rest i (omega arith) in
    let d : s / 3 / 3 ^ i ≡ s / 3 ^ suc i = div-div-eq-div-mul s 3 (3 ^ i) ∙ ap (λ (m : ℕ). s / m) (sym (pow-succ' 3 i)) in
    rw (ne_eqb a (get_or more i 0) (omega arith)) (digit_at rest (s / 3) i (omega arith) ∙ ap (λ (m : ℕ). m % 3) d)

-- ---- the literals

-- Of a digit below 3: false where neither true nor undefined.
split : (negative : Bool) (digit : ℕ) → digit < 3 → eqb digit (cond negative 1 2) ≡ not (eqb digit (cond negative 2 1) or eqb digit 0)
unfolding ◌or◌
split true zero h = refl
split true (suc zero) h = refl
split true (suc (suc zero)) h = refl
split true (suc (suc (suc d))) h = absurd (omega arith)
split false zero h = refl
split false (suc zero) h = refl
split false (suc (suc zero)) h = refl
split false (suc (suc (suc d))) h = absurd (omega arith)

none_true : (negative : Bool) → (eqb 3 (cond negative 2 1) or eqb 3 0) ≡ false
unfolding ◌or◌
none_true true = refl
none_true false = refl

none_false : (negative : Bool) → eqb 3 (cond negative 1 2) ≡ false
none_false true = refl
none_false false = refl

module _ (p : Program) (s o : ℕ) where
  -- An abducible literal is false exactly if it is neither true nor undefined;
  pub abducible_split : is_among p.abducibles (atom_number o) ≡ true
      → false_abducible p s o ≡ not (true_abducible p s o or undefined_abducible p s o)
  unfolding false_abducible true_abducible undefined_abducible
  abducible_split e =
      split (explicitly_negated o) (digit_of p.abducibles s (atom_number o)) (digit_small p.abducibles s (atom_number o) e)

  -- another is none of the three.
  pub other_possible : is_among p.abducibles (atom_number o) ≡ false → (true_abducible p s o or undefined_abducible p s o) ≡ false
  unfolding true_abducible undefined_abducible
  other_possible e = rw (digit_none p.abducibles s (atom_number o) e) (none_true (explicitly_negated o))

  pub other_false : is_among p.abducibles (atom_number o) ≡ false → false_abducible p s o ≡ false
  unfolding false_abducible
  other_false e = rw (digit_none p.abducibles s (atom_number o) e) (none_false (explicitly_negated o))

  pub has_true : o < judged p.atoms → has (true_abducibles p s) o ≡ true_abducible p s o
  unfolding true_abducibles
  has_true h = has_set_of _ (judged p.atoms) o h

  pub has_possible : o < judged p.atoms → has (possible_abducibles p s) o ≡ (true_abducible p s o or undefined_abducible p s o)
  unfolding possible_abducibles
  has_possible h = has_set_of _ (judged p.atoms) o h
