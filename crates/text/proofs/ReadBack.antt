-- An imported text's program is valid, so its file is read back as exactly that program.
-- Assumes nothing.
use mathlib.Core.Path.{◌≡◌, refl, sym, ◌∙◌}
use mathlib.Core.Bool.{Bool, true, false, not}
use mathlib.Core.List.{List, [], ◌∷◌, map}
use Prim.Native.Nat.{ℕ, zero, suc, ◌+◌, ◌*◌, ◌≤◌}
use native.Mathlib.Omega.{arith}
use borrow.Author.Tests.{eq-eqb, le-leb}
use lib.ListN.{length, get_or, length-map}
use Rattle.papers.specs.Program.{Program}
use Rattle.papers.specs.Outcome.{check}
use Rattle.papers.specs.Outcome as file
use Rattle.papers.specs.Field.{size_of, fewest, most, length_allowed, field_fault}
use Rattle.papers.specs.Content.{atoms_fault, abducibles_fault, body_fault}
use Rattle.papers.specs.Encoding.{encode_numbers, encode_field, encode_file}
use Rattle.papers.specs.Reading.{rule_of, read_file}
use Rattle.papers.specs.Valid.{All, none, each, Valid}
use Rattle.papers.proofs.Checks.{checked}
use Rattle.papers.proofs.NumberLaws.{length_encoded}
use Rattle.papers.proofs.ContentLaws.{atoms_tell, abducibles_tell, length_tells, bodies_tell, rules_tell}
use Rattle.papers.proofs.RunLaws.{GoodContent}
use Rattle.papers.proofs.Sizes.{length_field}
use Rattle.papers.proofs.Encoded.{encoded_accepted}
use Rattle.text.specs.Lines.{Reading, accepted, Line, lines_of}
use Rattle.text.specs.Typed.{Placed, its, declared_in, rules_in, integrity_in, program_typed, Typable}
use Rattle.text.specs.Importing.{heading_fault, overfull_at, check_run, check_typed, import_text}
use Rattle.text.proofs.Fitting.{typed_typable}
use Rattle.text.proofs.Readings.{passed, through}

-- Of a typed field only the count (9) and the length (3) can fail: its heading and its content are whole, its tag is its own.
pub heading_is : (tag : ℕ) (full : Bool) (ns : List ℕ) → heading_fault tag full ns ≡ check (not full) 9 (check (length_allowed tag (2 * length ns)) 3 0)
unfolding field_fault
heading_is tag full ns =
    let l = length_encoded ns in
    let bytes = encode_field tag (encode_numbers ns) in
    let f : length bytes ≡ 3 + length (encode_numbers ns) = length_field tag (encode_numbers ns) in
    let size : size_of bytes ≡ 2 * length ns = unfold size_of encode_field in omega arith in
    rw (
      le-leb 3 (length bytes) (omega arith),
      eq-eqb (get_or bytes 0 0) tag (unfold encode_field in refl),
      size,
      le-leb (3 + 2 * length ns) (length bytes) (omega arith),
    )

-- A run that passed: few enough, each field good, and then what follows.
pub record RunPassed {A : Type 0} (tag n : ℕ) (abducibles : List ℕ) (room : ℕ) (fs : List (Placed (List ℕ))) (next : Reading A) (a : A) : Type 0 where
  pub few : length fs ≤ room
  pub good : All (GoodContent tag n abducibles) (map its fs)
  pub after : next ≡ accepted a

pub run_passed : {A : Type 0} (tag n : ℕ) (abducibles : List ℕ) (room : ℕ) (fs : List (Placed (List ℕ))) (next : Reading A) (a : A)
    → check_run tag n abducibles room fs next ≡ accepted a → RunPassed tag n abducibles room fs next a
unfolding check_run
run_passed tag n abducibles zero [] next a e = record { few = omega arith; good = none; after = e }
run_passed tag n abducibles (suc room) [] next a e = record { few = omega arith; good = none; after = e }
run_passed tag n abducibles zero (f ∷ later) next a e =
    absurd (let h = heading_is tag true f.it in let z = (passed (heading_fault tag true f.it) f.start next e).0 in omega arith)
run_passed tag n abducibles (suc room) (f ∷ later) next a e =
    let x = passed (heading_fault tag false f.it) f.start _ e in
    let y = passed (body_fault tag n abducibles f.it) f.start _ x.1 in
    let ih = run_passed tag n abducibles room later next a y.1 in
    let fits = checked (length_allowed tag (2 * length f.it)) 2 0 (sym (heading_is tag false f.it) ∙ x.0) in
    record {
      few = let i = ih.few in omega arith;
      good = each (record { fault = y.0; allowed = fits.0 }) ih.good;
      after = ih.after;
    }

-- What passed the file's checks is valid.
typed_valid : (lines : List Line) (p : Program) → check_typed lines (program_typed lines) ≡ accepted p → (p ≡ program_typed lines) × Valid (program_typed lines)
unfolding check_typed program_typed fewest most
typed_valid lines p e =
    let q = program_typed lines in
    let n = q.atoms in
    let abducibles = q.abducibles in
    let a = passed (atoms_fault n) 0 _ e in
    let b = passed (heading_fault 0x03 false abducibles) (overfull_at 16 [] (declared_in lines)) _ a.1 in
    let c = passed (abducibles_fault n 0 abducibles) 0 _ b.1 in
    let d = run_passed 0x04 n abducibles 1024 (rules_in lines) _ p c.1 in
    let i = run_passed 0x05 n abducibles 256 (integrity_in lines) _ p d.after in
    let atoms = atoms_tell n a.0 in
    let fits = checked (length_allowed 0x03 (2 * length abducibles)) 2 0 (sym (heading_is 0x03 false abducibles) ∙ b.0) in
    let rising = abducibles_tell n 0 abducibles c.0 in
    let same : p ≡ q = let f = i.after in cc in (
      same,
      record {
        some_atoms = atoms.0;
        few_atoms = atoms.1;
        few_abducibles = (length_tells 0x03 (length abducibles) (omega arith) fits.0).1;
        abducibles_listed = rising.0;
        abducibles_rising = rising.1;
        few_rules = let f = d.few in let l = length-map (rules_in lines) its in let m = length-map (map its (rules_in lines)) rule_of in omega arith;
        rules = rules_tell n abducibles d.good;
        few_integrity = let f = i.few in let l = length-map (integrity_in lines) its in omega arith;
        integrity = bodies_tell n abducibles i.good;
      },
    )

-- An imported text was read as lines, and is the program that they type.
pub record Imports (text : List ℕ) (p : Program) : Type 0 where
  pub lines : List Line
  pub read : lines_of text ≡ accepted lines
  pub typed : p ≡ program_typed lines
  pub valid : Valid p

pub imported : (text : List ℕ) (p : Program) → import_text text ≡ accepted p → Imports text p
unfolding import_text
imported text p e =
    let t = through (lines_of text) _ e in
    let v = typed_valid t.value p t.after in
    record { lines = t.value; read = t.first; typed = v.0; valid = rw v.0 v.1 }

-- "The file written is read back as exactly the rules typed, in their order, then the integrity rules in theirs."
pub read_back : (text : List ℕ) (p : Program) → import_text text ≡ accepted p → read_file (encode_file p) ≡ file.accepted p
read_back text p e = encoded_accepted p (imported text p e).valid

-- No body of what a text is imported as has u, so that no FFFF is written.
pub imported_typable : (text : List ℕ) (p : Program) → import_text text ≡ accepted p → Typable p
imported_typable text p e = let i = imported text p e in rw i.typed (typed_typable i.lines)
