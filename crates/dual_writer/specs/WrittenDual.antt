-- What writing the dual tells, in document 01's numbers, and what the lent buffer then holds.
use Rattle.std.specs.Prelude.{cond, List, ℕ, leb, length, Result, Ok, Err}
use Rattle.papers.specs.Program.{Program}
use Rattle.papers.specs.Outcome.{Outcome, accepted, refused}
use Rattle.papers.specs.declared.Bare.TheVariants as bare
use Rattle.papers.specs.Told.{Told, tells, bare_told, refusal_of, refusal_told}
use Rattle.dual.specs.Bytes.{dual_of, filled}
use Rattle.dual_writer.specs.declared.DualError.{DualError}
use Rattle.dual_writer.specs.declared.DualError.TheVariants.{Short, Refused}

-- What each answer tells: "the answer is the dual's length".
unfoldable pub written_told : Result ℕ DualError → Told ℕ
written_told (Ok n) = tells n
written_told (Err Short) = bare_told bare.ShortDual
written_told (Err (Refused r)) = refusal_told (refusal_of r)

-- What writing has to tell. 11: "lent dual buffer shorter than the dual"; `room` is the length of the lent buffer.
unfoldable pub dual_told : Outcome Program → ℕ → Told ℕ
dual_told (accepted p) room = cond (leb (length (dual_of p)) room) (tells (length (dual_of p))) (bare_told bare.ShortDual)
dual_told (refused r) room = refusal_told r

-- The buffer afterwards: unchanged on refusal.
abbrev pub dual_after : Outcome Program → List ℕ → List ℕ
dual_after (accepted p) buffer = cond (leb (length (dual_of p)) (length buffer)) (filled (dual_of p) buffer) buffer
dual_after (refused r) buffer = buffer
