-- The word of a literal by its conjugate.
-- Assumes nothing.
use mathlib.Core.Path.{◌≡◌}
use mathlib.Core.List.{List}
use Prim.Native.Nat.{ℕ, ◌≤◌, ◌<◌}
use native.Mathlib.Omega.{arith}
use borrow.Author.Tests.{lt-ltb, le-ltb}
use lib.Bits.{bit_or}
use lib.ListN.{get_or}
use Rattle.std.specs.Prelude.{Some, None}
use Rattle.literals.specs.declared.Objective.{Objective}
use Rattle.literals.proofs.NumberingLaws.{explicit_below}
use Rattle.conjugates.specs.Conjugates.{conjugate_of}
use Rattle.conjugates.proofs.ConjugateLaws.{conjugate_tells, no_conjugate_tells}
use Rattle.lanes.specs.Lanes.{backing_word}

module _ (n : ℕ) (trues falses : List ℕ) (o : ℕ) where
  pub conjugate_few : (p : Objective) → conjugate_of n o ≡ Some p → n ≤ 256 → p.0 < 513
  conjugate_few p e h = let t = conjugate_tells n o e in omega (arith, explicit_below n o t.0)

  pub backing_conjugate : (p : Objective) → conjugate_of n o ≡ Some p
      → bit_or (get_or trues p.0 0) (get_or falses o 0) ≡ backing_word n trues falses o
  unfolding backing_word
  backing_conjugate p e = let t = conjugate_tells n o e in rw (lt-ltb o _ t.0, t.1)

  pub backing_bare : conjugate_of n o ≡ None → get_or falses o 0 ≡ backing_word n trues falses o
  unfolding backing_word
  backing_bare e = rw (le-ltb o _ (no_conjugate_tells n o e))
