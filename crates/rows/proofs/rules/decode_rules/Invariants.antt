-- `rows::rules::decode_rules` meets its contract. The loop's invariant: the rows of the rules passed are decoded.
use Rattle.papers.specs.Reading.{program_in}
use Rattle.rows.specs.Rows.{rule_rows}
use Rattle.rows.proofs.DecodedLaws.{DecodedTo}
use Rattle.rows.proofs.rules.decode_rules.Given as goal

abbrev pub invariant-loop-fold : goal.invariant-loop-fold
invariant-loop-fold l = DecodedTo (rule_rows (program_in l.fn.file.bytes.now)) l.initial.numbers l.initial.starts l.fold l.at l.numbers l.starts
