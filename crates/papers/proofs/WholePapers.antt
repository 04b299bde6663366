-- The file, the sheet and both, as `read_file`, `read_sheet` and `read_papers` meet them.
-- Assumes nothing.
use mathlib.Core.Path.{◌≡◌, ap}
use mathlib.Core.Bool.{false}
use mathlib.Core.List.{List}
use Prim.Native.Nat.{ℕ, ◌+◌, ◌≤◌}
use native.Mathlib.Omega.{arith}
use lib.ListN.{length}
use Rattle.papers.specs.declared.Paper.TheVariants.{Sheet}
use Rattle.papers.specs.declared.Contents.{Contents}
use Rattle.papers.specs.declared.Fault.{Fault}
use Rattle.papers.specs.Outcome.{Refusal, accepted, refused, refusal}
use Rattle.papers.specs.Field.{numbers, read_field}
use Rattle.papers.specs.Content.{literals_fault}
use Rattle.papers.specs.Reading.{read_edition, read_atoms, read_abducibles, first_rule, read_end, read_rules, read_file, read_sheet, read_papers}
use Rattle.papers.specs.Answers.{contents_of}
use Rattle.papers.specs.Told.{fault_number, papers_of}
use Rattle.papers.proofs.Accepted.{edition_read, atoms_read, abducibles_read}
use Rattle.papers.proofs.ReadersGot.{Read, failed_refuses}

-- ---- the file

module _ (bytes : List ℕ) where
  pub file_edition : {r : Refusal} → read_edition bytes ≡ refused r → read_file bytes ≡ refused r
  unfolding read_file
  file_edition e = rw e

  module _ {value : ℕ} (edition : read_edition bytes ≡ accepted value) where
    pub edition_within : 4 ≤ length bytes
    edition_within = (edition_read bytes value edition).within

    pub file_atoms : {r : Refusal} → read_atoms bytes ≡ refused r → read_file bytes ≡ refused r
    unfolding read_file
    file_atoms e = rw (edition, e)

    module _ {n : ℕ} (atoms : read_atoms bytes ≡ accepted n) where
      pub atoms_within : 9 ≤ length bytes
      atoms_within = (atoms_read bytes n atoms).0.within

      pub file_abducibles : {r : Refusal} → read_abducibles n bytes ≡ refused r → read_file bytes ≡ refused r
      unfolding read_file
      file_abducibles e = rw (edition, atoms, e)

      module _ {abducibles : List ℕ} (listed : read_abducibles n bytes ≡ accepted abducibles) where
        pub abducibles_within : first_rule abducibles ≤ length bytes
        abducibles_within = let w = (abducibles_read n bytes abducibles listed).0.within in omega arith

        pub file_rules : read_rules n abducibles bytes ≡ read_file bytes
        unfolding read_file
        file_rules = rw (edition, atoms, listed)

-- ---- the sheet

module _ (n : ℕ) (bytes content : List ℕ) (read : read_field Sheet 0x06 false 0 bytes ≡ accepted content) where
  pub sheet_fault : (f : Fault) → literals_fault false n (numbers content) ≡ fault_number f
      → read_sheet n bytes ≡ refused (refusal (fault_number f) Sheet 0)
  unfolding read_sheet
  sheet_fault f e = rw read (failed_refuses f Sheet 0 _ e)

  module _ (none : literals_fault false n (numbers content) ≡ 0) where
    pub sheet_end : {r : Refusal} → read_end Sheet (3 + length content) bytes ≡ refused r → read_sheet n bytes ≡ refused r
    unfolding read_sheet
    sheet_end e = rw (read, none, e)

    pub sheet_query : {end : ℕ} → read_end Sheet (3 + length content) bytes ≡ accepted end → read_sheet n bytes ≡ accepted (numbers content)
    unfolding read_sheet
    sheet_query e = rw (read, none, e)

-- ---- both papers

module _ (file sheet : List ℕ) where
  pub papers_refused : {r : Refusal} → read_file file ≡ refused r → read_papers file sheet ≡ refused r
  unfolding read_papers
  papers_refused e = rw e

  module _ {contents : Contents} (filed : Read contents_of (read_file file) contents) where
    -- The sheet is read by the file's atoms.
    atoms_are : filed.value.atoms ≡ contents.atoms
    atoms_are = ap (λ (x : Contents). x.atoms) filed.tells_it

    pub papers_sheet : {r : Refusal} → read_sheet contents.atoms sheet ≡ refused r → read_papers file sheet ≡ refused r
    unfolding read_papers
    papers_sheet e = rw (filed.is, atoms_are, e)

    pub papers_both : {literals : ℕ} → Read length (read_sheet contents.atoms sheet) literals
        → Read papers_of (read_papers file sheet) (contents, literals)
    unfolding read_papers
    papers_both query =
        let q : read_sheet filed.value.atoms sheet ≡ accepted query.value = rw atoms_are query.is in
        record {
          value = record { program = filed.value; query = query.value };
          is = rw (filed.is, q);
          tells_it = λ i. (filed.tells_it i, query.tells_it i);
        }
