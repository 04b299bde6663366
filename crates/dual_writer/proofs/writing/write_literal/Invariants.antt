-- `dual_writer::writing::write_literal` meets its contract. The loop's invariant: the folds behind are written.
use mathlib.Core.Path.{◌≡◌}
use Prim.Native.Nat.{◌-◌}
use lib.ListN.{length, get_or}
use Rattle.std.proofs.Common.{None}
use Rattle.dual_writer.specs.Chains.{number_from, folds_at}
use Rattle.dual_writer.proofs.WritingLaws.{Listed}
use Rattle.dual_writer.proofs.writing.write_literal.Given as goal

abbrev pub invariant-loop-ahead : goal.invariant-loop-ahead
invariant-loop-ahead l =
    Listed l.fn.chains.next (folds_at l.fn.chains.next (get_or l.fn.chains.first l.fn.o.0 None)) l.initial.buffer l.buffer l.ahead l.at
    × (length l.buffer ≡ length l.initial.buffer)

abbrev pub decreases-loop-ahead : goal.decreases-loop-ahead
decreases-loop-ahead l = 1280 - number_from l.ahead
