-- `field_writer::put_heading` meets its contract.
use mathlib.Core.Path.{ap, ◌∙◌}
use mathlib.Core.List.{List}
use Prim.Native.Nat.{ℕ, ◌/◌, ◌%◌}
use native.Mathlib.Omega.{arith}
use lib.ListN.{set, length-set}
use Rattle.dual.proofs.FilledLaws.{filled_heading}
use Rattle.field_writer.proofs.put_heading.Goals as goal

pub put_number-requires : goal.put_number-requires
put_number-requires c = (simp length-set (omega arith), c.requires.1.0)

pub shape_of-buffer : goal.shape_of-buffer
shape_of-buffer c = c.put_number-2.auto.buffer ∙ c.put_number.auto.buffer ∙ simp length-set

pub returns : goal.returns
returns c =
    let a = c.args in
    c.put_number-2.ensures
    ∙ ap (λ (l : List ℕ). set (set l 3 (a.number / 256)) 4 (a.number % 256)) c.put_number.ensures
    ∙ filled_heading a.buffer.now a.tag _ _ _ _ c.requires.0
