-- Whether two lines type the same: their tags tell it.
-- Assumes nothing.
use mathlib.Core.Path.{◌≡◌, refl, sym, ◌∙◌}
use mathlib.Core.Bool.{Bool, true, false}
use Prim.Native.Nat.{◌≤◌}
use native.Mathlib.Omega.{arith}
use borrow.Author.Tests.{eq-eqb, eqb-true}
use lib.Dec.{eqb}
use denote.Enum.Bare.{sameb}
use Rattle.text.specs.contracts.line.LineKind.{the_type}
use Rattle.text.specs.declared.line.LineKind.{LineKind}
use Rattle.text.specs.declared.line.LineKind.TheVariants.{Abducible, Rule, Integrity}
use Rattle.text.specs.Briefly.{tag_byte}

kinds_tag : (a b : LineKind) → sameb the_type a b ≡ eqb (tag_byte a) (tag_byte b)
kinds_tag Abducible Abducible = refl
kinds_tag Abducible Rule = refl
kinds_tag Abducible Integrity = refl
kinds_tag Rule Abducible = refl
kinds_tag Rule Rule = refl
kinds_tag Rule Integrity = refl
kinds_tag Integrity Abducible = refl
kinds_tag Integrity Rule = refl
kinds_tag Integrity Integrity = refl

module _ (a b : LineKind) {r : Bool} (e : r ≡ sameb the_type a b) where
  pub same_kind : r ≡ true → tag_byte a ≡ tag_byte b
  same_kind q = eqb-true (tag_byte a) (tag_byte b) (sym (kinds_tag a b) ∙ sym e ∙ q)

  pub other_kind : r ≡ false → tag_byte a ≡ tag_byte b → ⊥
  other_kind q s = absurd (let t : true ≡ false = sym (eq-eqb (tag_byte a) (tag_byte b) s) ∙ sym (kinds_tag a b) ∙ sym e ∙ q in cc)

pub tag_high : (k : LineKind) → tag_byte k ≤ 5
tag_high Abducible = omega arith
tag_high Rule = omega arith
tag_high Integrity = omega arith
