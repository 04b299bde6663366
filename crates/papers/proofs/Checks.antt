-- Laws of checks and outcomes: what passed checks tell, and what was accepted on the way to an acceptance.
-- Assumes nothing.
use mathlib.Core.Path.{◌≡◌, refl}
use mathlib.Core.Bool.{Bool, true, false, ◌&&◌, true≢false}
use Prim.Native.Nat.{ℕ, zero, suc}
use native.Mathlib.Omega.{arith}
use Rattle.papers.specs.declared.Paper.{Paper}
use Rattle.papers.specs.Outcome.{Refusal, Outcome, accepted, refused, refusal, check, passing, and_then}

-- ---- checks

-- Of two tests that pass, each does.
pub both : (a b : Bool) → (a && b) ≡ true → (a ≡ true) × (b ≡ true)
both true b e = (refl, e)
both false b e = absurd (true≢false cc)

-- A check that failed has a number above 0, so where the checks give 0 this one passed, and so did the others.
pub checked : (b : Bool) (n others : ℕ) → check b (suc n) others ≡ 0 → (b ≡ true) × (others ≡ 0)
checked true n others e = (refl, e)
checked false n others e = absurd (omega arith)

module _ {A : Type 0} where
  -- A refusal is no acceptance.
  pub refused_not : {X : Type 0} {r : Refusal} {a : A} → refused r ≡ accepted a → X
  refused_not e = absurd (true≢false cc)

  -- What was accepted after checks: they passed.
  pub passed : (n : ℕ) (paper : Paper) (place : ℕ) (next : Outcome A) {a : A} → passing n paper place next ≡ accepted a
      → (n ≡ 0) × (next ≡ accepted a)
  passed zero paper place next e = (refl, e)
  passed (suc n) paper place next e = refused_not e

  pub passing_refuses : (n : ℕ) (paper : Paper) (place : ℕ) (next : Outcome A) → (n ≡ 0 → ⊥)
      → passing n paper place next ≡ refused (refusal n paper place)
  passing_refuses zero paper place next h = absurd (h refl)
  passing_refuses (suc n) paper place next h = refl

-- ---- outcomes

module _ {A B : Type 0} where
  -- What was accepted at the end was accepted on the way.
  pub record Through (o : Outcome A) (next : A → Outcome B) (b : B) : Type 0 where
    pub value : A
    pub first : o ≡ accepted value
    pub after : next value ≡ accepted b

  pub through : (o : Outcome A) (next : A → Outcome B) {b : B} → and_then o next ≡ accepted b → Through o next b
  through (accepted a) next e = record { value = a; first = refl; after = e }
  through (refused r) next e = refused_not e
