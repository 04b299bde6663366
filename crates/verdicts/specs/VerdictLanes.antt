-- The verdicts of sixty-four scenarios at once. p is a program, q a query.
use Rattle.std.specs.Prelude.{◌≡◌, false, not, List, ℕ, ◌+◌, ◌<◌, get_or}
use Rattle.literals.specs.Numbering.{judged, falsum}
use Rattle.papers.specs.Program.{Program, Query}
use Rattle.papers.specs.Valid.{ValidQuery}
use Rattle.papers.specs.Reading.{program_in}
use Rattle.papers.specs.Tests.{◌and◌}
use Rattle.model.specs.Sets.{has}
use Rattle.model.specs.LeastSet.{body_holds}
use Rattle.model.specs.Model.{rounds, value_bytes, contradictory, explains}
use Rattle.lanes.specs.Lanes.{lane_bit, lane}
use Rattle.settling.specs.DecodedFiles.{FileDecoded}
use Rattle.preparing.specs.Preparing.{PapersStand}
use Rattle.verdicts.specs.declared.AcceptedPapers.{AcceptedPapers}
use Rattle.verdicts.specs.declared.AskedFile.{AskedFile}

-- The file is accepted, its dual stands in its buffer, and the query is one that it allows.
abbrev pub Stands : AcceptedPapers → Type 0
Stands a = PapersStand a.file.now a.dual.now a.query.now

-- Accepted papers decoded: the rules and the dual of the file and the query of the sheet as numbers.
pub record DecodedPapers (a : AskedFile) : Type 0 where
  pub file_in : FileDecoded a.decoded
  pub asked : ValidQuery (program_in a.decoded.file.now).atoms a.query.now

-- The lanes in which one of the first n literals is both true and false.
pub record BothLanes (n : ℕ) (trues falses : List ℕ) (word : ℕ) : Type 0 where
  pub at : (l : ℕ) → lane_bit l word ≡ contradictory (value_bytes (lane n l trues) (lane n l falses))

-- The lanes in which falsum is false and not true, each literal of the query holds, and no judged literal is both.
pub record ExplainedWord (n : ℕ) (query trues falses : List ℕ) (word : ℕ) : Type 0 where
  pub at : (l : ℕ) → l < 64
      → lane_bit l word
      ≡ ((not (has (lane (judged n) l trues) (falsum n)) and has (lane (judged n) l falses) (falsum n))
      and body_holds false (lane (judged n) l trues) (lane (judged n) l falses) query
      and not (contradictory (value_bytes (lane (judged n) l trues) (lane (judged n) l falses))))

-- Which of the scenarios base + l are explanations, and their round counts.
pub record VerdictLanes (p : Program) (q : Query) (base word : ℕ) (counts : List ℕ) : Type 0 where
  pub explained : (l : ℕ) → l < 64 → lane_bit l word ≡ explains p q (base + l)
  pub counted : (l : ℕ) → l < 64 → get_or counts l 0 ≡ rounds p (base + l)
