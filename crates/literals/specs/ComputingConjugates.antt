-- What has to unfold for a conjugate's number to be computed: a theorem says `unfolding conjugating`.
use Rattle.literals.specs.Section21.{conj_e, conj_d}
use Rattle.literals.specs.BodyLiterals.{body_literal, body_number, body_listed, body_conjugate, conjugate_number}
use Rattle.literals.specs.Numbering.{number_of, form_by, literal_form, objective_or, explicit_conjugate, default_conjugate}

unfoldable pub conjugating : Unit {0}
unfolding conj_e conj_d number_of form_by literal_form objective_or explicit_conjugate default_conjugate
    body_literal body_number body_listed body_conjugate conjugate_number
conjugating = tt
