-- `dual_writer::writing::body_conjugate` meets its contract: a case of the definition for each of the code.
use mathlib.Core.Path.{ap}
use Prim.Native.Nat.{ℕ}
use native.Mathlib.Omega.{arith}
use Rattle.literals.specs.declared.bodies.BodyLiteral.TheVariants.{Is}
use Rattle.literals.specs.BodyLiterals.{body_number, body_conjugate}
use Rattle.dual_writer.proofs.writing.body_conjugate.Goals as goal

pub conjugate_of-requires : goal.conjugate_of-requires
unfolding body_number
conjugate_of-requires c = rw c.in-Is.is at c.requires

pub returns-in-Is : goal.returns-in-Is
unfolding body_conjugate body_number
returns-in-Is c =
    let made = c.conjugate_of.ensures in
    (rw c.in-Is.is (ap (λ (l : ℕ). Is (record { 0 = l })) made.0), made.1)

pub returns-in-Undefined : goal.returns-in-Undefined
unfolding body_conjugate body_number
returns-in-Undefined c = (rw c.in-Undefined.is, omega arith)
