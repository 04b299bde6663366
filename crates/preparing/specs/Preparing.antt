-- What preparing a call takes and leaves.
use Rattle.std.specs.Prelude.{◌≡◌, List, ℕ, ◌≤◌, length}
use Rattle.literals.specs.Numbering.{judged}
use Rattle.folds.specs.declared.RuleFile.{RuleFile}
use Rattle.papers.specs.Program.{Program, Query, all_rules}
use Rattle.papers.specs.Valid.{ValidQuery}
use Rattle.papers.specs.Reading.{program_in}
use Rattle.papers.specs.Field.{numbers}
use Rattle.dual.specs.Bytes.{filled}
use Rattle.rows.specs.DualBytes.{DualStarts}
use Rattle.rows.specs.Rows.{PreparedRules, PreparedEntries}
use Rattle.preparing.specs.declared.Counts.{Counts}

-- Accepted papers: the file with the places of its folds, the dual in its buffer, and the query as a part of the sheet.
pub record PapersStand (file : RuleFile) (dual query : List ℕ) : Type 0 where
  pub starts : DualStarts (program_in file.bytes.now) dual
  pub asked : ValidQuery (program_in file.bytes.now).atoms (numbers query)

-- Arrays in which the numbers of any such papers find room.
pub record Room (rules rule-visits entries entry-visits asked : List ℕ) : Type 0 where
  pub rules_fit : 23040 ≤ length rules
  pub rule_visits_fit : 1280 ≤ length rule-visits
  pub entries_fit : 28000 ≤ length entries
  pub entry_visits_fit : 513 ≤ length entry-visits
  pub asked_fit : 16 ≤ length asked

-- As many visits as a program has folds and judged literals, and as many numbers as the query has literals.
abbrev pub counts_of : Program → Query → Counts
counts_of p q = record { folds = length (all_rules p); judged = judged p.atoms; asked = length q }

-- The rules and the dual as rows of numbers that are all visited, the numbers of the query, and how many of each there are; what else stands in the
-- arrays stays.
pub record Prepares (file query rules₀ rules rule-visits₀ rule-visits entries₀ entries entry-visits₀ entry-visits asked₀ asked : List ℕ)
    (counts : Counts) : Type 0 where
  pub rules_in_lem : PreparedRules file rules₀ rules rule-visits₀ rule-visits
  pub entries_in : PreparedEntries file entries₀ entries entry-visits₀ entry-visits
  pub query_in : asked ≡ filled (numbers query) asked₀
  pub counted : counts ≡ counts_of (program_in file) (numbers query)
