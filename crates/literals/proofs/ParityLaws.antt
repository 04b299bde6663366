-- The conjugates by forms are those by parity, for every literal that each takes. Assumes nothing.
use Prim.Native.Nat.{ℕ, ◌+◌, ◌-◌, ◌*◌, ◌/◌, ◌%◌}
use mathlib.Core.Path.{◌≡◌, refl, sym, ◌∙◌}
use mathlib.Core.Bool.{Bool, true, false}
use native.Mathlib.Omega.{arith}
use borrow.Author.Tests.{eqb-true, eqb-false}
use lib.Dec.{eqb}
use Rattle.literals.specs.Numbering.{explicit_conjugate, default_conjugate}
use Rattle.literals.specs.Parity.{other_of_pair}
use Rattle.literals.proofs.NumberingLaws.{explicit_sum, default_sum}

pair_sum : (x : ℕ) → other_of_pair x ≡ 2 * (x / 2) + (1 - x % 2)
unfolding other_of_pair
pair_sum x = go (eqb (x % 2) 0) refl
  where
    go : (even : Bool) → eqb (x % 2) 0 ≡ even → other_of_pair x ≡ 2 * (x / 2) + (1 - x % 2)
    go true e = rw (e, other_of_pair) (omega (arith, eqb-true))
    go false e = rw (e, other_of_pair) (omega (arith, eqb-false (x % 2) 0 e))

-- The explicit conjugate takes every objective literal,
pub explicit_by_parity : (o : ℕ) → explicit_conjugate o ≡ other_of_pair o
explicit_by_parity o = explicit_sum o ∙ sym (pair_sum o)

-- the default conjugate every literal.
pub default_by_parity : (l : ℕ) → default_conjugate l ≡ other_of_pair l
default_by_parity l = default_sum l ∙ sym (pair_sum l)
