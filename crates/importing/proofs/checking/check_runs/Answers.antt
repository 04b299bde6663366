-- `importing::checking::check_runs` meets its contract.
use native.Mathlib.Omega.{arith}
use Rattle.std.proofs.lemmas.Result.{err_from_is_err_and}
use Rattle.importing.proofs.RunLaws.{rules_refuse, then_pass}
use Rattle.importing.proofs.checking.check_runs.Goals as goal

pub check_run-requires : goal.check_run-requires
check_run-requires c = let p = c.requires in (p.0, (p.1, (omega arith, omega arith)))

pub returns-in_err-rules : goal.returns-in_err-rules
returns-in_err-rules c =
    let p = err_from_is_err_and c.from_residual.result c.from_residual.ensures.1 in
    rw (p.1, p.2) (rules_refuse c.args.text.now _ c.in_err-rules.ensures)

pub returns : goal.returns
returns c = then_pass c.args.text.now c.in_ok-rules.ensures c.in_ok-integrity.ensures
