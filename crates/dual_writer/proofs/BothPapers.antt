-- What a caller knows that has read both papers and had the dual written.
-- Assumes nothing.
use mathlib.Core.Path.{◌≡◌, refl, sym, ap, ◌∙◌}
use mathlib.Core.Bool.{Bool, true, false, cond, true≢false}
use mathlib.Core.List.{List}
use Prim.Native.Nat.{ℕ, ◌+◌, ◌-◌, ◌*◌, ◌^◌, ◌<◌, ◌≤◌}
use native.Mathlib.Omega.{arith}
use borrow.Author.Tests.{leb-true, leb-false, le-leb, lt-leb}
use lib.Dec.{leb}
use lib.ListN.{length, take, drop}
use Rattle.std.proofs.Common.{Result, Ok, Err}
use Rattle.papers.specs.declared.Contents.{Contents}
use Rattle.papers.specs.Program.{Program, Query}
use Rattle.papers.specs.Valid.{ValidQuery}
use Rattle.papers.specs.Field.{numbers}
use Rattle.papers.specs.Outcome.{Outcome, accepted}
use Rattle.papers.specs.Reading.{read_papers, program_in, Papers}
use Rattle.papers.specs.declared.Bare.TheVariants as bare
use Rattle.papers.specs.Told.{tells, bare_told, read_told, papers_of}
use Rattle.papers.proofs.NumberLaws.{Bytes}
use Rattle.papers.proofs.ReadersGot.{told_accepted}
use Rattle.papers.proofs.BothAccepted.{BothTold}
use Rattle.dual_writer.specs.declared.DualError.{DualError}
use Rattle.dual_writer.specs.declared.DualError.TheVariants.{Short}
use Rattle.dual.specs.Bytes.{dual_of, filled}
use Rattle.dual_writer.specs.WrittenDual.{written_told, dual_told, dual_after}
use Rattle.dual_writer.proofs.WrittenTold.{written_from, written_from_lem}
use Rattle.papers.proofs.FileFacts.{program_valid, abducibles_are}

-- ---- the papers

-- The papers, with the query's bytes as the code takes them from the sheet.
abbrev pub papers_in : List ℕ → List ℕ → ℕ → Papers
papers_in file sheet literals = record { program = program_in file; query = numbers (take (3 + 2 * literals - 3) (drop 3 sheet)) }

module _ {file sheet : List ℕ} {contents : Contents} {literals : ℕ} (both : BothTold file sheet contents literals) where
  pub query_is : Bytes sheet → numbers (take (3 + 2 * literals - 3) (drop 3 sheet)) ≡ both.query
  query_is b =
      let e : 3 + 2 * literals - 3 ≡ 2 * literals = omega arith in
      ap (λ (n : ℕ). numbers (take n (drop 3 sheet))) e ∙ both.written b

  pub both_read : Bytes sheet → read_papers file sheet ≡ accepted (papers_in file sheet literals)
  both_read b = both.is ∙ ap (λ (q : Query). accepted (record { program = program_in file; query = q })) (sym (query_is b))

  pub both_asked : Bytes sheet → ValidQuery (program_in file).atoms (papers_in file sheet literals).query
  both_asked b = rw (query_is b) both.valid

  pub few_abducibles_lem : contents.abducibles ≤ 16
  few_abducibles_lem =
      let v = (program_valid file contents both.answer).few_abducibles in
      let e = abducibles_are file contents both.answer in
      omega arith

  pub few_literals : read_told papers_of (read_papers file sheet) ≡ tells (contents, literals) → literals ≤ 16
  few_literals e =
      let q = told_accepted papers_of (read_papers file sheet) e in
      let same : accepted q.value ≡ accepted (record { program = program_in file; query = both.query }) = sym q.is ∙ both.is in
      let query : q.value.query ≡ both.query = cc in
      let few = both.valid.few in
      let size = ap (λ (x : Contents × ℕ). x.1) q.tells_it in
      let long = ap length query in
      omega arith

  -- How many scenarios there are.
  pub scenarios_are : {total : ℕ} → total ≡ 3 ^ contents.abducibles → total ≡ 3 ^ length (program_in file).abducibles
  scenarios_are counted = counted ∙ ap (λ (n : ℕ). 3 ^ n) (sym (abducibles_are file contents both.answer))

-- ---- the dual

-- An error was told: it is no length.
pub other_told : {w : Result ℕ DualError} {e : DualError} → w ≡ Err e → (n : ℕ) → w ≡ Ok n → ⊥
other_told is n e = cc

-- What writing has to tell, by whether it fits.
told_by_lem : {p : Program} {o : Outcome Program} → o ≡ accepted p → (room : ℕ) (b : Bool) → leb (length (dual_of p)) room ≡ b
    → dual_told o room ≡ cond b (tells (length (dual_of p))) (bare_told bare.ShortDual)
unfolding dual_told
told_by_lem is room b h = rw (is, h)

module _ {p : Program} {o : Outcome Program} (is : o ≡ accepted p) (dual : List ℕ) {written : Result ℕ DualError}
    (told : written_told written ≡ dual_told o (length dual)) where
  -- It was written, or can be.
  pub dual_fits : {n : ℕ} → written ≡ Ok n → length (dual_of p) ≤ length dual
  unfolding written_told bare_told
  dual_fits {n} e = go (leb (length (dual_of p)) (length dual)) refl
    where
      go : (b : Bool) → leb (length (dual_of p)) (length dual) ≡ b → length (dual_of p) ≤ length dual
      go true h = leb-true (length (dual_of p)) (length dual) h
      go false h = absurd (let q = sym (ap written_told e) ∙ told ∙ told_by_lem is (length dual) false h in true≢false cc)

  -- There is no room for it.
  pub dual_short : ((n : ℕ) → written ≡ Ok n → ⊥) → length dual < length (dual_of p)
  dual_short none = go (leb (length (dual_of p)) (length dual)) refl
    where
      go : (b : Bool) → leb (length (dual_of p)) (length dual) ≡ b → length dual < length (dual_of p)
      go true h = absurd (none (length (dual_of p)) (sym (written_from_lem written) ∙ ap written_from (told ∙ told_by_lem is (length dual) true h)))
      go false h = leb-false (length (dual_of p)) (length dual) h

  -- So it is wherever an error was told, and no other is.
  pub dual_refused : {e : DualError} → written ≡ Err e → length dual < length (dual_of p)
  dual_refused is = dual_short (other_told is)

  pub dual_error : {e : DualError} → written ≡ Err e → e ≡ Short
  unfolding written_told bare_told
  dual_error short =
      let none = told_by_lem is (length dual) false (lt-leb (length (dual_of p)) (length dual) (dual_refused short)) in
      let e = sym (written_from_lem written) ∙ ap written_from (told ∙ none) in
      cc

-- The lent buffer afterwards.
module _ {p : Program} {o : Outcome Program} (is : o ≡ accepted p) (allowed : Bool) (dual : List ℕ) {after : List ℕ}
    (left : after ≡ cond allowed (dual_after o dual) dual) where
  pub dual_stays : length dual < length (dual_of p) → after ≡ dual
  dual_stays h =
      left ∙ ap (λ (x : Outcome Program). cond allowed (dual_after x dual) dual) is ∙ rw (lt-leb (length (dual_of p)) (length dual) h) (go allowed)
    where
      go : (b : Bool) → cond b dual dual ≡ dual
      go true = refl
      go false = refl

  pub dual_kept : allowed ≡ false → after ≡ dual
  dual_kept e = left ∙ ap (λ (b : Bool). cond b (dual_after o dual) dual) e

  pub dual_filled : allowed ≡ true → length (dual_of p) ≤ length dual → after ≡ filled (dual_of p) dual
  dual_filled e h =
      left ∙ ap (λ (b : Bool). cond b (dual_after o dual) dual) e ∙ ap (λ (x : Outcome Program). dual_after x dual) is
      ∙ rw (le-leb (length (dual_of p)) (length dual) h)
