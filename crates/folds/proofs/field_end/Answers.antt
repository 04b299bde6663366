-- `folds::field_end` meets its contract.
use mathlib.Core.Path.{sym, ap, ◌∙◌}
use Prim.Native.Nat.{ℕ, ◌+◌}
use Rattle.papers.proofs.FieldTests.{size_there}
use Rattle.folds.proofs.field_end.Goals as goal

pub returns : goal.returns
returns c = let a = c.args in ap (λ (k : ℕ). a.place + 3 + k) (c.number_at.ensures.0 ∙ sym (size_there a.place a.file.now))
