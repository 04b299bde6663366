-- `importing::surveying::survey` meets its contract. The loop's invariant: the atom count of the lines that were read.
use borrow.Author.Rules.{rules}
use Rattle.std.proofs.lemmas.Result.{err_from_is_err_and}
use Rattle.text.specs.Told.{reading_told}
use Rattle.importing.proofs.SurveyLaws.{survey_start, survey_over, survey_refused, survey_on}
use Rattle.importing.proofs.surveying.survey.Goals as goal

pub loop-line-init : goal.loop-line-init
loop-line-init c = survey_start _

pub returns-in_err-line : goal.returns-in_err-line
unfolding reading_told
returns-in_err-line c =
    let p = err_from_is_err_and c.from_residual.result c.from_residual.ensures.1 in
    rw (p.1, p.2) (survey_refused c.loop-line.invariant c.in_err-line.ensures)

pub loop-line-preserved : goal.loop-line-preserved
loop-line-preserved c = survey_on c.loop-line.invariant (rw c.in-Some.is at c.in_ok-line.ensures) (search rules)

pub returns : goal.returns
unfolding reading_told
returns c = survey_over c.loop-line.invariant (rw c.in_default.is at c.in_ok-line.ensures)
