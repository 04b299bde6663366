-- `decimals::Printer::put_byte` meets its contract.
use mathlib.Core.Path.{refl}
use Rattle.decimals.proofs.Putting.{written_one, written_out}
use Rattle.decimals.proofs.Printer.put_byte.Goals as goal
use Rattle.decimals.proofs.Printer.put_byte.Goals.{then-self, else-self}

pub returns : goal.returns
returns c =
    let before = c.args.self.now in
    let byte = c.args.byte in
    elim c.if-self.branch [
      | then-self w ↦
          rw w.self-is
          (record { put = record { place = refl; bytes = written_one before.at byte before.buffer.now }; same_buffer = refl })
      | else-self w ↦
          let bytes = written_out before.at byte before.buffer.now w.if-self.false in
          rw w.self-is (record { put = record { place = refl; bytes = bytes }; same_buffer = refl })
    ]
