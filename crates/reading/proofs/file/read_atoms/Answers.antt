-- `reading::file::read_atoms` meets its contract.
use mathlib.Core.Path.{refl}
use mathlib.Core.Bool.{false}
use Prim.Native.Nat.{◌<◌}
use native.Mathlib.Omega.{arith}
use borrow.Author.Tests.{le-leb, lt-leb}
use lib.ListN.{length}
use Rattle.papers.specs.declared.Paper.TheVariants.{File}
use Rattle.papers.specs.Field.{fewest, read_field}
use Rattle.papers.specs.Content.{atoms_fault}
use Rattle.papers.specs.Reading.{read_atoms}
use Rattle.papers.proofs.FieldGot.{Got, got_content, pairs_length}
use Rattle.papers.proofs.NumbersWalked.{first_number}
use Rattle.papers.proofs.ReadersGot.{got_refused, ok_told, err_told}
use Rattle.reading.proofs.file.read_atoms.Goals as goal
use Rattle.reading.proofs.file.read_atoms.Goals.{In-Ok, then-atoms-lt1-via-then-atoms-lt1, then-atoms-lt1-via-else-atoms-lt1+then-atoms-gt256}

field : (c : In-Ok) → Got File 0x02 false 4 c.args.file.now c.in-Ok.content.now
field c = got_content _ _ _ _ _ c.read_field-read.ensures.told c.in-Ok.is

-- Its content is one two-byte number.
pair : (c : In-Ok) → 1 < length c.in-Ok.content.now
unfolding fewest
pair c = omega (arith, (pairs_length 0x02 _ (λ e. omega arith) (field c).whole.allowed).least)

pub returns-in_default : goal.returns-in_default
unfolding read_atoms
returns-in_default c =
    let e = got_refused _ _ (read_field File 0x02 false 4 c.args.file.now) c.read_field-read.ensures.told c.unwrap_err.ensures in
    err_told _ _ _ _ (rw e)

pub number_at-atoms-requires : goal.number_at-atoms-requires
number_at-atoms-requires c = pair (goal.at.number_at-atoms-requires c).In-Ok

pub returns-then-atoms-lt1 : goal.returns-then-atoms-lt1
unfolding read_atoms atoms_fault
returns-then-atoms-lt1 c =
    let here = (goal.at.returns-then-atoms-lt1 c).In-Ok in
    let is = first_number c.in-Ok.content.now (pair here) c.number_at-atoms.ensures.0 in
    rw c.at.ensures
    (err_told _ _ _ _
    (elim c.then-atoms-lt1.branch [
      | then-atoms-lt1-via-then-atoms-lt1 w ↦ rw ((field here).read, is, lt-leb 1 _ w.if-atoms-lt1.true)
      | then-atoms-lt1-via-else-atoms-lt1+then-atoms-gt256 w ↦
          rw ((field here).read, is, le-leb 1 _ w.if-atoms-lt1.false, lt-leb _ 256 w.if-atoms-gt256.true)
    ]))

pub returns : goal.returns
unfolding read_atoms atoms_fault
returns c =
    let here = (goal.at.returns c).In-Ok in
    let is = first_number c.in-Ok.content.now (pair here) c.number_at-atoms.ensures.0 in
    ok_told _ _ _ (record {
      value = _;
      is = rw ((field here).read, is, le-leb 1 _ c.if-atoms-lt1.false, le-leb _ 256 c.if-atoms-gt256.false);
      tells_it = refl;
    })
