-- Laws of readings: what was accepted on the way to an acceptance, and that the checks passed.
-- Assumes nothing.
use mathlib.Core.Path.{◌≡◌, refl}
use Prim.Native.Nat.{ℕ, zero, suc}
use native.Mathlib.Omega.{arith}
use Rattle.text.specs.Lines.{TextRefusal}
use Rattle.text.specs.Lines.{Reading, accepted, refused, passing, and_then}

module _ {A : Type 0} where
  -- A refusal is no acceptance.
  pub refused_not : {X : Type 0} {r : TextRefusal} {a : A} → refused r ≡ accepted a → X
  refused_not e = absurd (let z : ◌≡◌ {A = ℕ} 0 1 = cc in omega arith)

  pub passed : (n place : ℕ) (next : Reading A) {a : A} → passing n place next ≡ accepted a → (n ≡ 0) × (next ≡ accepted a)
  passed zero place next e = (refl, e)
  passed (suc n) place next e = refused_not e

module _ {A B : Type 0} where
  pub record Through (o : Reading A) (next : A → Reading B) (b : B) : Type 0 where
    pub value : A
    pub first : o ≡ accepted value
    pub after : next value ≡ accepted b

  pub through : (o : Reading A) (next : A → Reading B) {b : B} → and_then o next ≡ accepted b → Through o next b
  through (accepted a) next e = record { value = a; first = refl; after = e }
  through (refused r) next e = refused_not e
