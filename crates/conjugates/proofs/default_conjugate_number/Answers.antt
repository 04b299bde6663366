-- `conjugates::default_conjugate_number` meets its contract: what is listed has a form.
use mathlib.Core.Path.{sym, ap, ◌∙◌}
use Rattle.literals.specs.Section21.{conj_d}
use Rattle.literals.specs.Numbering.{number_of, default_conjugate}
use Rattle.conjugates.proofs.ConjugateLaws.{form_tells, default_conjugate_made}
use Rattle.conjugates.proofs.default_conjugate_number.Goals as goal

pub returns : goal.returns
unfolding default_conjugate
returns c =
    let a = c.args in
    let tells = form_tells a.atoms a.l.0 (sym c.form_of.ensures ∙ c.in_ok-literal.was) in
    default_conjugate_made a.atoms a.l.0 tells.0 (c.literal_number.ensures ∙ ap number_of (c.default_conjugate.ensures ∙ ap conj_d tells.1))
