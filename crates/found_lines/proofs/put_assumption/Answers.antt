-- `found_lines::put_assumption` meets its contract.
use Rattle.decimals.proofs.Printing.{printed_none, printed_append}
use Rattle.found_lines.proofs.Items.{item_open, item_signed}
use Rattle.found_lines.proofs.put_assumption.Goals as goal

pub returns-then-digit-ne0-clause-item : goal.returns-then-digit-ne0-clause-item
returns-then-digit-ne0-clause-item c =
    let a = c.args in
    let number = rw c.from.ensures at c.put_number.ensures.printed in
    let signed = rw c.sign.ensures at c.put_byte-then-digit-ne0.ensures in
    rw (item_signed a.atom.0 a.digit c.if-digit-ne0.true) (printed_append (printed_append c.put_byte.ensures number) signed)

pub returns-else-digit-ne0-clause-item : goal.returns-else-digit-ne0-clause-item
returns-else-digit-ne0-clause-item c = let a = c.args in rw (item_open a.atom.0 a.digit c.if-digit-ne0.false) (printed_none a.page.now)
