-- Runs of scenarios that do not agree, fault by fault.
-- Assumes nothing.
use mathlib.Core.Path.{◌≡◌, refl, sym, ap, ap₂, subst, ◌∙◌}
use mathlib.Core.Bool.{Bool, true, false, not, cond}
use Prim.Native.Nat.{ℕ, ◌+◌, ◌-◌, ◌*◌, ◌/◌, ◌%◌, ◌^◌, ◌<◌}
use native.Mathlib.Nat.{mod-lt, div-add-mod'}
use native.Mathlib.Numerals.{add-one}
use native.Mathlib.Omega.{arith}
use lib.Arith.{digits_div}
use mathlib.Core.Logic.{◌⊎◌, inl, inr}
use borrow.Author.Tests.{eq-eqb}
use Rattle.papers.specs.Tests.{◌and◌, ◌or◌}
use Rattle.papers.proofs.TestLaws.{or_true}
use Rattle.lanes.specs.Lanes.{lane_bit}
use Rattle.held.specs.declared.Masks.{Masks}
use Rattle.held.specs.Masks.{keeps, agrees_at, agrees}
use Rattle.held.proofs.AgreesLaws.{agrees_fails}

-- ---- one fault

-- A fault that is held and has the digit, or is not held.
pub kept_digit : (held : Bool) (digit own : ℕ) → ((held ≡ true) × (own ≡ digit)) ⊎ (held ≡ false) → keeps held digit own ≡ true
unfolding keeps ◌or◌
kept_digit held digit own (inl e) = rw (eq-eqb own digit e.1) (or_true (not held))
kept_digit held digit own (inr e) = rw e

-- ---- runs

-- Up to the next multiple of a power of 3 the digit there stays.
same_run : (s power l : ℕ) → 0 < power → l < power - s % power → (s + l) / power ≡ s / power
same_run s power l h k =
    let m = mod-lt s h in
    let e : s + l ≡ s / power * power + (s % power + l) = omega (arith, div-add-mod' s power) in
    ap (λ (x : ℕ). x / power) e ∙ digits_div (s / power) (omega arith)

-- The first i of k faults are looked at.
pub record Passing (k i : ℕ) (m : Masks) (s run : ℕ) : Type 0 where
  pub none : (l : ℕ) → l < run → agrees k m (s + l) ≡ false
  pub first : run ≡ 0 → agrees i m s ≡ true

pub passing_begun : (k : ℕ) (m : Masks) (s : ℕ) → Passing k 0 m s 0
unfolding agrees
passing_begun k m s = record { none = λ l h. absurd (omega arith); first = λ e. refl }

module _ {k i : ℕ} {m : Masks} {s run : ℕ} (so_far : Passing k i m s run) (within : i < k) where
  -- A fault at which s does not agree,
  other_run : agrees_at m s i ≡ false → 0 < 3 ^ i → Passing k (i + 1) m s (3 ^ i - s % 3 ^ i)
  unfolding agrees_at
  other_run e pos = record {
    none = λ l h. agrees_fails k m (s + l) i within (rw (same_run s (3 ^ i) l pos h) e);
    first = λ z. let small = mod-lt s pos in absurd (omega arith);
  }

  -- and one at which it does.
  same_fault : agrees_at m s i ≡ true → Passing k (i + 1) m s run
  unfolding agrees ◌and◌
  same_fault e = record { none = so_far.none; first = λ z. ap (λ (n : ℕ). agrees n m s) (add-one i) ∙ rw (so_far.first z, e) }

  at_fault : {power : ℕ} {one two : Bool} → power ≡ 3 ^ i → one ≡ lane_bit i m.assumed → two ≡ lane_bit i m.ruled
      → not (keeps one 1 (s / power % 3) and keeps two 2 (s / power % 3)) ≡ not (agrees_at m s i)
  unfolding agrees_at
  at_fault {power} {one} {two} p e f =
      ap (λ (n : ℕ). not (keeps one 1 (s / n % 3) and keeps two 2 (s / n % 3))) p
      ∙ ap₂ (λ (x y : Bool). not (keeps x 1 (s / 3 ^ i % 3) and keeps y 2 (s / 3 ^ i % 3))) e f

  pub passing_next : {power after : ℕ} {one two test : Bool} → power ≡ 3 ^ i → 0 < power → one ≡ lane_bit i m.assumed → two ≡ lane_bit i m.ruled
      → test ≡ not (keeps one 1 (s / power % 3) and keeps two 2 (s / power % 3)) → after ≡ cond test (power - s % power) run
      → Passing k (i + 1) m s after
  passing_next {power} {after} {one} {two} {test} p pos e f t a = go (agrees_at m s i) refl
    where
      told : test ≡ not (agrees_at m s i)
      told = t ∙ at_fault p e f

      go : (x : Bool) → agrees_at m s i ≡ x → Passing k (i + 1) m s after
      go true h =
          let is : after ≡ run = a ∙ rw (told, h) in
          subst (Passing k (i + 1) m s) (sym is) (same_fault h)
      go false h =
          let is : after ≡ 3 ^ i - s % 3 ^ i = a ∙ rw (told, h, p) in
          subst (Passing k (i + 1) m s) (sym is) (other_run h (omega (arith, p)))
