-- `desk::main`: what it hands to `print_text` is the text of its papers.
use Prim.Native.Nat.{ℕ}
use native.Mathlib.Omega.{arith}
use lib.ListN.{length-replicate}
use Rattle.desk.proofs.Printing.{handed_on}
use Rattle.desk.proofs.main.Goals as goal

pub print_text-requires : goal.print_text-requires
print_text-requires c =
    let report = c.write_report-size in
    handed_on report.ensures.0 (let m = report.ensures.1 in let n = report.auto.out in omega (arith, length-replicate {A = ℕ} 98304 0))
