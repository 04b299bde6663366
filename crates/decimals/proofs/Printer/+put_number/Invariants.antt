-- The measure is the number, of which a call of itself has a tenth.
use Rattle.decimals.proofs.Printer.+put_number.Given as goal

abbrev pub decreases-put_number : goal.decreases-put_number
decreases-put_number l = l.n
