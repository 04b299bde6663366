-- `dual_writer::entries::Source::dual_length` meets its contract. The loop's invariant: what was counted and what is left make the whole.
use mathlib.Core.Path.{◌≡◌}
use Prim.Native.Nat.{◌+◌, ◌-◌}
use Rattle.papers.specs.Reading.{program_in}
use Rattle.dual.specs.Length.{entries_length}
use Rattle.dual_writer.proofs.entries.Source.dual_length.Given as goal

abbrev pub invariant-loop-o : goal.invariant-loop-o
invariant-loop-o l =
    let p = program_in l.fn.self.file.now.bytes.now in
    entries_length p l.judged 0 ≡ l.total + entries_length p (l.judged - l.o) l.o
