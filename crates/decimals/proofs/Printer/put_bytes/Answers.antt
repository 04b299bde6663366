-- `decimals::Printer::put_bytes` meets its contract.
use Rattle.decimals.proofs.Printing.{printed_none, printed_byte}
use Rattle.decimals.proofs.Printer.put_bytes.Goals as goal

pub loop-byte-init : goal.loop-byte-init
loop-byte-init c = printed_none c.args.self.now

pub loop-byte-preserved : goal.loop-byte-preserved
loop-byte-preserved c =
    let l = c.loop-byte in
    printed_byte l.byte-index c.args.bytes.now c.loop-byte-test.true l.invariant c.put_byte.ensures
