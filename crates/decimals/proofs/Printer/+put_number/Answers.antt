-- `decimals::Printer::put_number` meets its contract.
use Rattle.decimals.specs.Decimal.{decimal}
use Rattle.decimals.specs.Printing.{Printed}
use Rattle.decimals.proofs.Printing.{printed_one, printed_more, printed_short}
use Rattle.decimals.proofs.Printer.+put_number.Goals as goal
use Rattle.decimals.proofs.Printer.+put_number.Goals.{then-n-ge10, else-n-ge10}

pub returns : goal.returns
returns t c =
    let n = c.args.n in
    let printed : Printed (decimal n) c.args.self.now c.put_byte.new.self = elim c.if-n-ge10.branch [
      | then-n-ge10 w ↦ printed_more n w.if-n-ge10.true (rw (← w.self-is) at w.put_number.ensures.printed) c.put_byte.ensures
      | else-n-ge10 w ↦ printed_one n w.if-n-ge10.false (rw w.self-is at c.put_byte.ensures)
    ] in
    record { printed = printed; short = printed_short n c.ranges.n.fits printed }
