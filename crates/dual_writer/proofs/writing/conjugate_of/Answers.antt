-- `dual_writer::writing::conjugate_of` meets its contract: two bytes are below 4 times 16,384.
use mathlib.Core.Path.{◌≡◌, sym}
use Prim.Native.Nat.{◌<◌}
use native.Mathlib.Omega.{arith}
use Rattle.std.proofs.Common.{Option, Some, None, unwrap_or}
use Rattle.literals.specs.declared.Literal.{Literal}
use Rattle.literals.specs.Numbering.{default_conjugate}
use Rattle.literals.proofs.NumberingLaws.{default_sum}
use Rattle.conjugates.specs.Conjugates.{default_conjugate_of}
use Rattle.conjugates.proofs.ConjugateLaws.{default_conjugate_tells, no_default_conjugate_tells}
use Rattle.dual_writer.proofs.writing.conjugate_of.Goals as goal

unwrapped : (found : Option Literal) (l : Literal) → found ≡ default_conjugate_of 16384 l.0 → l.0 < 65536
    → ((unwrap_or found l).0 ≡ default_conjugate l.0) × ((unwrap_or found l).0 < 65536)
unwrapped (Some m) l is few = let tells = default_conjugate_tells 16384 l.0 (sym is) in (tells.1, omega (arith, tells.1, default_sum l.0))
unwrapped None l is few = let past = no_default_conjugate_tells 16384 l.0 (sym is) in absurd (omega arith)

pub returns : goal.returns
returns c = rw c.unwrap_or.ensures (unwrapped _ c.args.l c.default_conjugate_number.ensures c.requires)
