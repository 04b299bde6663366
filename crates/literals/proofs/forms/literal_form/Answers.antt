-- `literals::forms::literal_form` meets its contract: a law for each case.
use mathlib.Core.Path.{sym}
use native.Mathlib.Omega.{arith}
use Rattle.literals.proofs.FormLaws.{form_first, form_second, form_third, form_fourth}
use Rattle.literals.proofs.forms.literal_form.Goals as goal

pub returns-in-0 : goal.returns-in-0
returns-in-0 c = let l = c.args.l.0 in sym (form_first _ l (omega (arith, c.in-0.is)))

pub returns-in-1 : goal.returns-in-1
returns-in-1 c = let l = c.args.l.0 in sym (form_second _ l (omega (arith, c.in-1.is)))

pub returns-in-2 : goal.returns-in-2
returns-in-2 c = let l = c.args.l.0 in sym (form_third _ l (omega (arith, c.in-2.is)))

pub returns-in_default : goal.returns-in_default
returns-in_default c =
    let l = c.args.l.0 in
    sym (form_fourth _ l (omega arith))
