-- `conjugates::explicit_conjugate_number` meets its contract: what is listed has a form, and that of an objective literal has a conjugate.
use mathlib.Core.Path.{◌≡◌, sym, ap, ◌∙◌}
use Prim.Native.Nat.{◌*◌, ◌<◌}
use native.Mathlib.Omega.{arith}
use Rattle.literals.specs.Section21.{conj_e}
use Rattle.literals.specs.Numbering.{literal, literal_form, objective_number, objective_or, explicit_conjugate}
use Rattle.literals.proofs.NumberingLaws.{explicit_never_none}
use Rattle.conjugates.proofs.ConjugateLaws.{form_tells, conjugate_made}
use Rattle.conjugates.proofs.explicit_conjugate_number.Goals as goal
use Rattle.conjugates.proofs.explicit_conjugate_number.Goals.{After-explicit_conjugate, Start}

-- ---- once the conjugate of its form is at hand

module _ (c : After-explicit_conjugate) where
  abbrev start : Start
  start = (goal.at.After-explicit_conjugate c).Start

  tells : (literal start.args.o.0 < 4 * start.args.atoms) × (c.in_ok-objective.objective ≡ literal_form (literal start.args.o.0))
  tells = form_tells start.args.atoms (literal start.args.o.0) (sym c.objective_form.ensures ∙ c.in_ok-objective.was)

  by_form : c.explicit_conjugate.result ≡ conj_e (literal_form (literal start.args.o.0))
  by_form = c.explicit_conjugate.ensures ∙ ap conj_e tells.1

pub returns-in_err-conjugate : goal.returns-in_err-conjugate
returns-in_err-conjugate c =
    let at = (goal.at.returns-in_err-conjugate c).After-explicit_conjugate in
    absurd (explicit_never_none (start at).args.o.0 (sym (by_form at) ∙ c.in_err-conjugate.was))

pub returns : goal.returns
unfolding explicit_conjugate objective_or
returns c =
    let at = (goal.at.returns c).After-explicit_conjugate in
    let o = c.args.o.0 in
    conjugate_made c.args.atoms o (omega (arith, (tells at).0))
    (c.objective_of.ensures ∙ ap objective_number c.literal_number.ensures
    ∙ ap (objective_or o) (sym c.in_ok-conjugate.was ∙ by_form at))
