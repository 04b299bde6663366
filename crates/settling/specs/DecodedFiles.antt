-- Accepted files that are decoded.
use Rattle.std.specs.Prelude.{◌≡◌}
use Rattle.papers.specs.Reading.{read_file, program_in}
use Rattle.papers.specs.Answers.{contents_of}
use Rattle.papers.specs.Told.{tells, read_told}
use Rattle.settling.specs.declared.DecodedFile.{DecodedFile}
use Rattle.settling.specs.RoundLanes.{Decoded}

-- The file is accepted with these contents, and its rules and its dual stand as rows.
pub record FileDecoded (d : DecodedFile) : Type 0 where
  pub answer : read_told contents_of (read_file d.file.now) ≡ tells d.contents
  pub decoded : Decoded (program_in d.file.now) d.rules.now d.rule_visits.now d.entries.now d.entry_visits.now
