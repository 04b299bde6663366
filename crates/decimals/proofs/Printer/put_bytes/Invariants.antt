-- `decimals::Printer::put_bytes` meets its contract. The loop's invariant: the bytes so far are printed.
use lib.ListN.{take}
use Rattle.decimals.specs.Printing.{Printed}
use Rattle.decimals.proofs.Printer.put_bytes.Given as goal

abbrev pub invariant-loop-byte : goal.invariant-loop-byte
invariant-loop-byte l = Printed (take l.byte-index l.bytes) l.initial.self l.self
