-- `reading::read_file` meets its contract: a law takes what each read gave to the answer.
use mathlib.Core.Path.{◌≡◌, ap, ◌∙◌}
use Rattle.papers.specs.Outcome.{accepted}
use Rattle.papers.specs.Field.{numbers}
use Rattle.papers.specs.Reading.{read_edition, read_atoms, read_abducibles}
use Rattle.papers.specs.Answers.{contents_of}
use Rattle.papers.specs.Told.{read_told}
use Rattle.papers.proofs.ReadersGot.{got_accepted, got_refused, err_told}
use Rattle.papers.proofs.WholePapers.{file_edition, edition_within, file_atoms, atoms_within, file_abducibles, abducibles_within, file_rules}
use Rattle.reading.proofs.read_file.Goals as goal
use Rattle.reading.proofs.read_file.Goals.{In-Ok, In-Ok-counted, In-Ok-listed}

edition : (c : In-Ok) → read_edition c.args.file.now ≡ accepted c.in-Ok.field-0
edition c = let r = got_accepted _ _ (read_edition c.args.file.now) c.read_edition-edition.ensures c.in-Ok.is in r.is ∙ ap accepted r.tells_it

atoms : (c : In-Ok-counted) → read_atoms c.args.file.now ≡ accepted c.in-Ok-counted.atoms
atoms c = let r = got_accepted _ _ (read_atoms c.args.file.now) c.read_atoms-counted.ensures c.in-Ok-counted.is in r.is ∙ ap accepted r.tells_it

listed : (c : In-Ok-listed) → read_abducibles c.in-Ok-counted.atoms c.args.file.now ≡ accepted (numbers c.in-Ok-listed.abducibles.now)
listed c =
    let r = got_accepted _ _ (read_abducibles c.in-Ok-counted.atoms c.args.file.now) c.read_abducibles-listed.ensures c.in-Ok-listed.is in
    r.is ∙ ap accepted r.tells_it

pub returns-in_default : goal.returns-in_default
returns-in_default c =
    let e = got_refused _ _ (read_edition c.args.file.now) c.read_edition-edition.ensures c.unwrap_err.ensures in
    err_told _ _ _ _ (file_edition c.args.file.now e)

pub read_atoms-counted-requires : goal.read_atoms-counted-requires
read_atoms-counted-requires c = edition_within c.args.file.now (edition (goal.at.read_atoms-counted-requires c).In-Ok)

pub returns-in_default-counted : goal.returns-in_default-counted
returns-in_default-counted c =
    let e = got_refused _ _ (read_atoms c.args.file.now) c.read_atoms-counted.ensures c.unwrap_err-in_default-counted.ensures in
    err_told _ _ _ _
    (file_atoms c.args.file.now (edition (goal.at.returns-in_default-counted c).In-Ok) e)

pub read_abducibles-listed-requires : goal.read_abducibles-listed-requires
read_abducibles-listed-requires c =
    let at = goal.at.read_abducibles-listed-requires c in
    atoms_within c.args.file.now (edition at.In-Ok) (atoms at.In-Ok-counted)

pub returns-in_default-listed : goal.returns-in_default-listed
returns-in_default-listed c =
    let at = goal.at.returns-in_default-listed c in
    let e = got_refused _ _ (read_abducibles c.in-Ok-counted.atoms c.args.file.now) c.read_abducibles-listed.ensures c.unwrap_err-in_default-listed.ensures in
    err_told _ _ _ _
    (file_abducibles c.args.file.now (edition at.In-Ok) (atoms at.In-Ok-counted) e)

pub read_rules-requires : goal.read_rules-requires
read_rules-requires c =
    let at = goal.at.read_rules-requires c in
    abducibles_within c.args.file.now (edition at.In-Ok) (atoms at.In-Ok-counted) (listed at.In-Ok-listed)

pub returns : goal.returns
returns c =
    let at = goal.at.returns c in
    c.read_rules.ensures
    ∙ ap (read_told contents_of)
    (file_rules c.args.file.now (edition at.In-Ok) (atoms at.In-Ok-counted) (listed at.In-Ok-listed))
