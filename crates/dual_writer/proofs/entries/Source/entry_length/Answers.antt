-- `dual_writer::entries::Source::entry_length` meets its contract.
use mathlib.Core.Path.{sym, ◌∙◌}
use Rattle.papers.specs.Reading.{program_in}
use Rattle.dual_writer.proofs.EntryLaws.{entry_among, entry_rules}
use Rattle.dual_writer.proofs.entries.Source.entry_length.Goals as goal

pub returns-then-is_abducible : goal.returns-then-is_abducible
returns-then-is_abducible c =
    let a = c.args in
    (entry_among (program_in a.self.now.file.now.bytes.now) a.o.0 (sym c.is_abducible.ensures ∙ c.if-is_abducible.true), tt)

pub returns : goal.returns
returns c =
    let a = c.args in
    let listed = entry_rules (program_in a.self.now.file.now.bytes.now) a.o.0 (sym c.is_abducible.ensures ∙ c.if-is_abducible.false) in
    (c.rules_length.ensures.0 ∙ listed, c.rules_length.ensures.1)
