-- `dual_writer::entries::is_abducible` meets its contract.
use mathlib.Core.Path.{◌≡◌, sym, ap, ◌∙◌}
use mathlib.Core.List.{List}
use Prim.Native.Nat.{ℕ, ◌+◌, ◌-◌, ◌*◌, ◌/◌}
use native.Mathlib.Omega.{arith}
use lib.ListN.{take, drop}
use Rattle.conjugates.proofs.ConjugateLaws.{atom_tells, no_atom_tells}
use Rattle.papers.specs.Field.{numbers}
use Rattle.papers.specs.Content.{is_among}
use Rattle.papers.specs.Reading.{program_in}
use Rattle.papers.proofs.FileFacts.{program_valid, atoms_are}
use Rattle.papers.proofs.FoldsWalked.{abducibles_there}
use Rattle.dual_writer.proofs.EntryLaws.{unlisted_among}
use Rattle.dual_writer.proofs.entries.is_abducible.Goals as goal

pub overflow_mul-end : goal.overflow_mul-end
overflow_mul-end c =
    let there = abducibles_there c.args.file.now.bytes.now c.args.file.now.contents c.args.file.now.walked.answer c.args.file.now.fits in
    omega (arith, there.0)

pub overflow_add-end : goal.overflow_add-end
overflow_add-end c =
    let there = abducibles_there c.args.file.now.bytes.now c.args.file.now.contents c.args.file.now.walked.answer c.args.file.now.fits in
    omega (arith, there.0)

pub slice_bounds-is_among-end : goal.slice_bounds-is_among-end
slice_bounds-is_among-end c =
    let there = abducibles_there c.args.file.now.bytes.now c.args.file.now.contents c.args.file.now.walked.answer c.args.file.now.fits in
    omega (arith, there.0)

pub returns-in-Some : goal.returns-in-Some
returns-in-Some c =
    let a = c.args in
    let own = (atom_tells a.file.now.contents.atoms a.o.0 (sym c.atom_of.ensures ∙ c.in-Some.is)).1 in
    let k = a.file.now.contents.abducibles in
    let e : 12 + 2 * k - 12 ≡ 2 * k = omega arith in
    let listed = (abducibles_there a.file.now.bytes.now a.file.now.contents a.file.now.walked.answer a.file.now.fits).1 in
    c.is_among.ensures
    ∙ ap (λ (atom : ℕ). is_among (numbers (take (12 + 2 * k - 12) (drop 12 a.file.now.bytes.now))) atom) own
    ∙ ap (λ (l : List ℕ). is_among l (a.o.0 / 2)) (ap (λ (size : ℕ). numbers (take size (drop 12 a.file.now.bytes.now))) e ∙ listed)

pub returns-in-None : goal.returns-in-None
returns-in-None c =
    let a = c.args in
    let past = no_atom_tells a.file.now.contents.atoms a.o.0 (sym c.atom_of.ensures ∙ c.in-None.is) in
    let same = atoms_are a.file.now.bytes.now a.file.now.contents a.file.now.walked.answer in
    sym (unlisted_among (program_in a.file.now.bytes.now) (program_valid a.file.now.bytes.now a.file.now.contents a.file.now.walked.answer) a.o.0 (omega arith))
