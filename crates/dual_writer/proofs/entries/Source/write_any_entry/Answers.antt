-- `dual_writer::entries::Source::write_any_entry` meets its contract.
use mathlib.Core.Path.{◌≡◌}
use Rattle.papers.specs.Reading.{program_in}
use Rattle.dual.specs.Table.{entry, entry_if_any}
use Rattle.dual.specs.TableEncoding.{encode_fields}
use Rattle.dual_writer.proofs.TableWriting.{no_entry, some_entry}
use Rattle.dual_writer.proofs.entries.Source.write_any_entry.Goals as goal
use Rattle.dual_writer.proofs.entries.Source.write_any_entry.Goals.{In-Some}

-- ---- where there is an entry

module _ (c : In-Some) where
  is : entry_if_any (program_in c.args.self.now.file.now.bytes.now) c.args.o.0 ≡ entry (program_in c.args.self.now.file.now.bytes.now) c.args.o.0
  is = some_entry (program_in c.args.self.now.file.now.bytes.now) c.args.o.0 c.entry_length.ensures.0 c.in-Some.is

pub returns-in-None : goal.returns-in-None
unfolding encode_fields
returns-in-None c =
    let none = no_entry (program_in c.args.self.now.file.now.bytes.now) c.args.o.0 c.entry_length.ensures.0 c.in-None.is in
    (rw none, rw none)
