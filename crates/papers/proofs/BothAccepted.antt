-- What is known of the two papers where both are accepted.
-- Assumes nothing.
use mathlib.Core.Path.{◌≡◌, sym, ap, ◌∙◌}
use mathlib.Core.List.{List}
use Prim.Native.Nat.{ℕ, ◌+◌, ◌*◌, ◌≤◌}
use native.Mathlib.Omega.{arith}
use lib.ListN.{length, take, drop}
use Rattle.papers.specs.declared.Contents.{Contents}
use Rattle.papers.specs.Program.{Program, Query}
use Rattle.papers.specs.Valid.{ValidQuery}
use Rattle.papers.specs.Field.{numbers}
use Rattle.papers.specs.Outcome.{accepted}
use Rattle.papers.specs.Reading.{Papers, read_file, program_in, read_sheet, read_papers}
use Rattle.papers.specs.Answers.{contents_of}
use Rattle.papers.specs.Told.{tells, read_told, papers_of}
use Rattle.papers.proofs.Checks.{through}
use Rattle.papers.proofs.NumberLaws.{Bytes}
use Rattle.papers.proofs.Accepted.{sheet_tells, sheet_accepted_valid}
use Rattle.papers.proofs.FoldLaws.{FieldAt, at_content}
use Rattle.papers.proofs.ReadersGot.{told_accepted, accepted_told}

-- The program and the query, and where their bytes are.
pub record BothTold (bytes sheet : List ℕ) (contents : Contents) (literals : ℕ) : Type 0 where
  pub query : Query
  pub is : read_papers bytes sheet ≡ accepted (record { program = program_in bytes; query = query })
  pub answer : read_told contents_of (read_file bytes) ≡ tells contents
  pub valid : ValidQuery (program_in bytes).atoms query
  pub within : 3 + 2 * literals ≤ length sheet
  pub written : Bytes sheet → numbers (take (2 * literals) (drop 3 sheet)) ≡ query

-- The file is accepted, as the program.
pub papers_file : (bytes sheet : List ℕ) {q : Papers} → read_papers bytes sheet ≡ accepted q → read_file bytes ≡ accepted q.program
unfolding read_papers
papers_file bytes sheet {q} is =
    let f = through (read_file bytes) _ is in
    let s = through (read_sheet f.value.atoms sheet) _ f.after in
    let same : f.value ≡ q.program = cc in
    f.first ∙ ap accepted same

program_is : (bytes : List ℕ) (p : Program) → read_file bytes ≡ accepted p → program_in bytes ≡ p
unfolding program_in
program_is bytes p e = rw e

pub both_told : (bytes sheet : List ℕ) (contents : Contents) (literals : ℕ) → read_told papers_of (read_papers bytes sheet) ≡ tells (contents, literals)
    → BothTold bytes sheet contents literals
unfolding read_papers
both_told bytes sheet contents literals e =
    let q = told_accepted papers_of (read_papers bytes sheet) e in
    let counted : length q.value.query ≡ literals = ap (λ (x : Contents × ℕ). x.1) q.tells_it in
    let f = through (read_file bytes) _ q.is in
    let s = through (read_sheet f.value.atoms sheet) _ f.after in
    let program : program_in bytes ≡ f.value = program_is bytes f.value f.first in
    let same_program : f.value ≡ q.value.program = cc in
    let same_query : s.value ≡ q.value.query = cc in
    let t = sheet_tells f.value.atoms sheet s.value s.first in
    let size : length s.value ≡ literals = ap length same_query ∙ counted in
    let here : Bytes sheet → FieldAt 0 sheet s.value = λ b. record {
      tag = 0x06;
      rest = drop (3 + 2 * length s.value) sheet;
      is = t.query.written b;
    } in
    record {
      query = s.value;
      is = rw program (q.is ∙ sym s.after);
      answer = accepted_told contents_of (read_file bytes) (record {
        value = f.value;
        is = f.first;
        tells_it = ap contents_of same_program ∙ ap (λ (x : Contents × ℕ). x.0) q.tells_it;
      });
      valid = rw program (sheet_accepted_valid f.value.atoms sheet s.value s.first);
      within = let w = t.query.within in omega arith;
      written = λ b. rw size at (at_content (here b));
    }
