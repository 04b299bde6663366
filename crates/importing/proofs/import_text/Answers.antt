-- `importing::import_text` meets its contract: a pass refuses the text, or all is known of the file.
use mathlib.Core.Path.{◌≡◌, ◌∙◌}
use Prim.Native.Nat.{◌+◌, ◌*◌, ◌≤◌}
use native.Mathlib.Omega.{arith}
use lib.ListN.{length}
use Rattle.std.proofs.lemmas.Result.{err_from_is_err_and}
use Rattle.papers.specs.Encoding.{encode_file}
use Rattle.text.specs.Lines.{accepted}
use Rattle.text.specs.Importing.{import_text}
use Rattle.text.specs.Told.{reading_told}
use Rattle.text.proofs.Passes.{import_refused}
use Rattle.importing.specs.Passes.{Typed, typed, Flagged, list_of}
use Rattle.importing.proofs.SurveyLaws.{surveyed_refused, surveyed_read, surveyed_atoms}
use Rattle.importing.proofs.ImportLaws.{flags_are, listed_are, few_atoms_lem, runs_pass, runs_refuse, size_is, file_small, text_refused, file_short}
use Rattle.importing.proofs.ImportLaws.{file_written}
use Rattle.importing.proofs.import_text.Goals as goal
use Rattle.importing.proofs.import_text.Goals.{In_ok-atoms, In_ok-flags, In_ok-rules, After-rising-abducibles}

-- ---- what each pass found

module _ (c : In_ok-atoms) where
  read : Typed c.args.text.now
  unfolding reading_told
  read = surveyed_read c.args.text.now c.in_ok-atoms.ensures

  atoms_are : c.in_ok-atoms.atoms ≡ (typed c.args.text.now).atoms
  unfolding reading_told
  atoms_are = surveyed_atoms c.args.text.now c.in_ok-atoms.ensures

module _ (c : In_ok-flags) where
  flagged : Flagged c.in_ok-flags.flags (typed c.args.text.now).abducibles
  flagged = flags_are c.args.text.now c.in_ok-flags.flags c.in_ok-flags.ensures.0

module _ (c : In_ok-rules) where
  passes : import_text c.args.text.now ≡ accepted (typed c.args.text.now)
  passes = runs_pass c.args.text.now (read (goal.at.In_ok-rules c).In_ok-atoms) c.in_ok-flags.ensures.1 c.in_ok-rules.ensures

module _ (c : After-rising-abducibles) where
  listed : c.rising-abducibles.result ≡ list_of (typed c.args.text.now).abducibles
  listed =
      c.rising-abducibles.ensures
      ∙ listed_are c.args.text.now c.in_ok-flags.flags (atoms_are (goal.at.After-rising-abducibles c).In_ok-atoms) c.in_ok-flags.ensures.0

  added : 15 + 2 * c.rising-abducibles.result.count + c.in_ok-rules.rules + c.in_ok-rules.integrity ≡ length (encode_file (typed c.args.text.now))
  added = size_is c.args.text.now c.in_ok-rules.ensures listed

  small : 15 + 2 * c.rising-abducibles.result.count + c.in_ok-rules.rules + c.in_ok-rules.integrity ≤ 46895
  small = omega (arith, added, file_small c.args.text.now (passes (goal.at.After-rising-abducibles c).In_ok-rules))

pub returns-in_err-atoms : goal.returns-in_err-atoms
unfolding reading_told
returns-in_err-atoms c =
    let p = err_from_is_err_and c.from_residual.result c.from_residual.ensures.1 in
    rw (p.1, p.2) (text_refused _ _ _ (import_refused c.args.text.now (surveyed_refused c.args.text.now c.in_err-atoms.ensures)))

pub declare-requires : goal.declare-requires
declare-requires c = read (goal.at.declare-requires c).In_ok-atoms

pub returns-in_err-flags : goal.returns-in_err-flags
returns-in_err-flags c =
    let p = err_from_is_err_and c.from_residual-in_err-flags.result c.from_residual-in_err-flags.ensures.1 in
    rw (p.1, p.2) (text_refused _ _ _ c.in_err-flags.ensures)

pub check_runs-requires : goal.check_runs-requires
check_runs-requires c = (read (goal.at.check_runs-requires c).In_ok-atoms, flagged (goal.at.check_runs-requires c).In_ok-flags)

pub returns-in_err-rules : goal.returns-in_err-rules
returns-in_err-rules c =
    let p = err_from_is_err_and c.from_residual-in_err-rules.result c.from_residual-in_err-rules.ensures.1 in
    let refuses = runs_refuse c.args.text.now (read (goal.at.returns-in_err-rules c).In_ok-atoms) c.in_ok-flags.ensures.1 _ c.in_err-rules.ensures in
    rw (p.1, p.2) (text_refused _ _ _ refuses)

pub rising-abducibles-requires : goal.rising-abducibles-requires
rising-abducibles-requires c =
    let at = (goal.at.rising-abducibles-requires c).In_ok-atoms in
    omega (arith, few_atoms_lem c.args.text.now (read at), atoms_are at)

pub overflow_mul-size : goal.overflow_mul-size
overflow_mul-size c = omega (arith, small (goal.at.overflow_mul-size c).After-rising-abducibles)

pub overflow_add-size : goal.overflow_add-size
overflow_add-size c = omega (arith, small (goal.at.overflow_add-size c).After-rising-abducibles)

pub overflow_add-size-2 : goal.overflow_add-size-2
overflow_add-size-2 c = omega (arith, small (goal.at.overflow_add-size-2 c).After-rising-abducibles)

pub overflow_add-size-3 : goal.overflow_add-size-3
overflow_add-size-3 c = omega (arith, small (goal.at.overflow_add-size-3 c).After-rising-abducibles)

pub returns-then-file-size : goal.returns-then-file-size
returns-then-file-size c =
    file_short c.args.text.now c.args.file.now (passes (goal.at.returns-then-file-size c).In_ok-rules)
    (added (goal.at.returns-then-file-size c).After-rising-abducibles) c.if-file-size.true

pub write_file-requires : goal.write_file-requires
write_file-requires c = record {
  imported = passes (goal.at.write_file-requires c).In_ok-rules;
  count = atoms_are (goal.at.write_file-requires c).In_ok-atoms;
  abducibles = listed (goal.at.write_file-requires c).After-rising-abducibles;
  fits = omega (arith, added (goal.at.write_file-requires c).After-rising-abducibles, c.if-file-size.false);
}

pub returns : goal.returns
returns c =
    file_written c.args.text.now c.args.file.now (passes (goal.at.returns c).In_ok-rules) (added (goal.at.returns c).After-rising-abducibles)
    c.if-file-size.false c.write_file.new.buffer c.write_file.ensures
