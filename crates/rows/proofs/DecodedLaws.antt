-- Rows that are decoded one by one, as the loops over the rules and the entries meet them.
-- Assumes nothing.
use mathlib.Core.Path.{◌≡◌, refl, sym, ap, ◌∙◌}
use mathlib.Core.List.{List, [], ◌++◌}
use Prim.Native.Nat.{ℕ, ◌+◌, ◌/◌, ◌≤◌, ◌<◌}
use native.Mathlib.Omega.{arith}
use lib.ListN.{length, get_or, take, set, length-append, length-set}
use lib.Seq.{take_all, get_or-set_other}
use Rattle.papers.specs.Program.{Rule}
use Rattle.papers.specs.Field.{numbers}
use Rattle.papers.specs.Places.{BodyOf}
use Rattle.papers.proofs.Lists.{set_more}
use Rattle.papers.proofs.NumbersWalked.{count_numbers}
use Rattle.dual.specs.Bytes.{filled}
use Rattle.copying.specs.Laid.{laid}
use Rattle.rows.specs.Rows.{rule_row, joined, Starts}
use Rattle.copying.proofs.LaidLaws.{laid_first, laid_none, laid_part, laid_row}
use Rattle.rows.proofs.RowLaws.{joined_more, row_within}

-- The first k rows are decoded.
pub record DecodedTo (rows : List (List ℕ)) (before starts : List ℕ) (k at : ℕ) (numbers begun : List ℕ) : Type 0 where
  pub ends : at ≡ length (joined (take k rows))
  pub written : numbers ≡ laid 0 (joined (take k rows)) before
  pub started : (j : ℕ) → j < k → get_or begun j 0 ≡ length (joined (take j rows))
  pub beyond : (j : ℕ) → k ≤ j → get_or begun j 0 ≡ get_or starts j 0
  pub kept : length numbers ≡ length before
  pub starts_kept : length begun ≡ length starts

module _ (rows : List (List ℕ)) (before starts : List ℕ) (room : length (joined rows) ≤ length before) (few : length rows ≤ length starts) where
  pub decoded_none : DecodedTo rows before starts 0 0 before starts
  unfolding joined
  decoded_none = record {
    ends = refl;
    written = sym (laid_none 0 before (omega arith));
    started = λ j h. absurd (omega arith);
    beyond = λ j h. refl;
    kept = refl;
    starts_kept = refl;
  }

  module _ (k at : ℕ) (values begun : List ℕ) (d : DecodedTo rows before starts k at values begun) where
    pub decoded_all : k ≡ length rows → (values ≡ filled (joined rows) before) × Starts rows starts begun
    decoded_all e =
        let all : take k rows ≡ rows = take_all k rows (omega arith) in (
          d.written ∙ ap (λ (l : List (List ℕ)). laid 0 (joined l) before) all ∙ laid_first (joined rows) before,
          record { at = λ j h. d.started j (omega arith); beyond = λ j h. d.beyond j (omega arith) },
        )

    module _ (here : k < length rows) (row : List ℕ) (is : get_or rows k [] ≡ row) where
      -- There is room for one more,
      pub decoded_room : at + length row ≤ length (joined rows)
      decoded_room = let w = row_within rows k here in let l = ap length is in omega (arith, d.ends)

      -- and it is decoded.
      pub decoded_more : (next : ℕ) (after : List ℕ) → next ≡ at + length row → after ≡ laid at row values → length after ≡ length values
          → DecodedTo rows before starts (k + 1) next after (set begun k at)
      decoded_more next after n a same =
          let more : joined (take (k + 1) rows) ≡ joined (take k rows) ++ row = joined_more rows k here ∙ ap (λ (l : List ℕ). joined (take k rows) ++ l) is in
          let r = decoded_room in
          record {
            ends = let l = ap length more ∙ length-append (joined (take k rows)) row in omega (arith, d.ends);
            written =
                a
                ∙ ap (laid at row) d.written
                ∙ laid_part 0 (joined (take k rows)) before row at (omega (arith, d.ends)) (omega arith)
                ∙ ap (λ (l : List ℕ). laid 0 l before) (sym more);
            started = set_more begun k at (λ j. length (joined (take j rows))) (omega (arith, d.starts_kept)) d.ends d.started;
            beyond = λ j h. get_or-set_other begun k j at 0 (λ e. omega arith) ∙ d.beyond j (omega arith);
            kept = same ∙ d.kept;
            starts_kept = length-set begun k at ∙ d.starts_kept;
          }

-- ---- the row of a rule

module _ (r : Rule) (bytes : List ℕ) (b : BodyOf r bytes) where
  pub body_counted : length (numbers bytes) ≡ length r.body
  body_counted = ap length b.literals

  pub rule_laid : (at head : ℕ) (before : List ℕ) → head ≡ r.head → at + length (rule_row r) ≤ length before
      → laid (at + 2) (numbers bytes) (set (set before at head) (at + 1) (length bytes / 2)) ≡ laid at (rule_row r) before
  unfolding rule_row
  rule_laid at head before h room =
      let n = body_counted in
      let c : length bytes / 2 ≡ length r.body = sym (count_numbers bytes) ∙ n in
      rw (h, c, b.literals) (laid_row at r.head before r.body (omega arith) (length r.body))
