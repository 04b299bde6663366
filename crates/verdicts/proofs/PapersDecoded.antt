-- Papers that stand in their bytes, decoded.
-- Assumes nothing.
use mathlib.Core.Path.{◌≡◌, sym, ap, ◌∙◌}
use mathlib.Core.List.{List}
use Prim.Native.Nat.{ℕ}
use lib.ListN.{length, take, drop}
use lib.Seq.{take-append_seam}
use Rattle.papers.specs.Reading.{program_in}
use Rattle.papers.specs.Field.{numbers}
use Rattle.papers.proofs.FileFacts.{program_valid}
use Rattle.rows.proofs.RowLaws.{rule_rows_count, entry_rows_count}
use Rattle.folds.specs.declared.RuleFile.{RuleFile}
use Rattle.preparing.specs.declared.Counts.{Counts}
use Rattle.preparing.specs.Preparing.{PapersStand, Prepares}
use Rattle.verdicts.specs.declared.AskedFile.{AskedFile}
use Rattle.verdicts.specs.VerdictLanes.{DecodedPapers}

module _ (file : RuleFile) {query rules₀ rules rule-visits₀ rule-visits entries₀ entries entry-visits₀ entry-visits asked₀ asked : List ℕ}
    {counts : Counts}
    (m : Prepares file.bytes.now query rules₀ rules rule-visits₀ rule-visits entries₀ entries entry-visits₀ entry-visits asked₀ asked counts) where
  -- The query is the part that is counted,
  pub query_part : take counts.asked asked ≡ numbers query
  query_part =
      ap (λ (c : Counts). take c.asked asked) m.counted
      ∙ ap (take (length (numbers query))) m.query_in
      ∙ take-append_seam (numbers query) (drop (length (numbers query)) asked₀)

  -- and so are the visits.
  pub papers_decoded : (a : AskedFile) {dual : List ℕ} → PapersStand file dual query → a.decoded.file.now ≡ file.bytes.now
      → a.decoded.contents ≡ file.contents → a.decoded.rules.now ≡ rules → a.decoded.rule_visits.now ≡ take counts.folds rule-visits
      → a.decoded.entries.now ≡ entries → a.decoded.entry_visits.now ≡ take counts.judged entry-visits
      → a.query.now ≡ take counts.asked asked → DecodedPapers a
  papers_decoded a s file_is contents_are rules_are rules_visited entries_are entries_visited asked_are =
      let p = program_in file.bytes.now in
      let valid = program_valid file.bytes.now file.contents file.walked.answer in
      let folds = ap (λ (c : Counts). c.folds) m.counted ∙ sym (rule_rows_count p) in
      let judged = ap (λ (c : Counts). c.judged) m.counted ∙ sym (entry_rows_count p) in
      record {
        file_in = record {
          answer = rw (file_is, contents_are) file.walked.answer;
          decoded = record {
            rules_in_lem = rw (file_is, rules_are, rules_visited, folds) (record { valid = valid; stand = m.rules_in_lem.stand });
            entries_in = rw (file_is, entries_are, entries_visited, judged) (record { valid = valid; stand = m.entries_in.stand });
          };
        };
        asked = rw (file_is, asked_are, query_part) s.asked;
      }
