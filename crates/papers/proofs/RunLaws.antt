-- What an accepted run of fields tells: how far it goes, and of each of its fields that length and content are good.
-- Assumes nothing.
use mathlib.Core.Path.{◌≡◌, refl}
use mathlib.Core.Bool.{Bool, true, false, cond, true≢false}
use mathlib.Core.List.{List, []}
use Prim.Native.Nat.{ℕ, zero, suc, ◌+◌, ◌*◌, ◌≤◌}
use native.Mathlib.Omega.{arith}
use borrow.Author.Tests.{eqb-false}
use lib.Dec.{eqb}
use lib.ListN.{length, get_or, drop}
use Rattle.papers.specs.declared.Paper.TheVariants.{File}
use Rattle.papers.specs.Outcome.{Outcome, accepted, passing, and_then}
use Rattle.papers.specs.Field.{numbers, length_allowed, read_field}
use Rattle.papers.specs.Content.{body_fault}
use Rattle.papers.specs.Reading.{Run, run_from, one_more, read_run}
use Rattle.papers.specs.Valid.{All, none, each}
use Rattle.papers.specs.Answers.{fields_length}
use Rattle.papers.proofs.Checks.{passed, through}
use Rattle.papers.proofs.FieldLaws.{Whole, field_tells, allowed_even}
use Rattle.papers.proofs.NumberLaws.{length_numbers}

-- ---- the fields that were read, one by one

-- What laws of accepted runs go through by induction: the run ends where the next tag is another, or has a whole field that
-- passed its test and goes on after it.
pub data RunReads (tag n : ℕ) (abducibles bytes : List ℕ) : ℕ → ℕ → Run → Type 0 where
  ended : {room place : ℕ} → (get_or (drop place bytes) 0 0 ≡ tag → ⊥) → RunReads tag n abducibles bytes room place (run_from [] place)
  further : {room place : ℕ} {content : List ℕ} {run : Run} → Whole tag false place bytes content
      → body_fault tag n abducibles (numbers content) ≡ 0 → RunReads tag n abducibles bytes room (place + 3 + length content) run
      → RunReads tag n abducibles bytes (suc room) place (one_more (numbers content) run)

module _ (tag n : ℕ) (abducibles bytes : List ℕ) where
  ended_at : (room place : ℕ) (run : Run) → eqb (get_or (drop place bytes) 0 0) tag ≡ false
      → accepted (run_from [] place) ≡ accepted run → RunReads tag n abducibles bytes room place run
  ended_at room place run t e =
      let q : run_from [] place ≡ run = cc in
      let here : RunReads tag n abducibles bytes room place (run_from [] place) = ended (eqb-false _ _ t) in
      rw q at here

  pub run_reads : (room place : ℕ) (run : Run) → read_run tag n abducibles room place bytes ≡ accepted run
      → RunReads tag n abducibles bytes room place run
  unfolding read_run
  run_reads zero place run e = go (eqb (get_or (drop place bytes) 0 0) tag) refl e where
    none_more : List ℕ → Outcome Run
    none_more content = accepted (run_from [] place)

    go : (b : Bool) → eqb (get_or (drop place bytes) 0 0) tag ≡ b
        → cond b (and_then (read_field File tag true place bytes) none_more) (accepted (run_from [] place)) ≡ accepted run
        → RunReads tag n abducibles bytes zero place run
    go true t e =
        let f = through (read_field File tag true place bytes) none_more e in
        let field = field_tells File tag true place bytes _ f.first in
        let full : true ≡ false = field.room in
        absurd (true≢false cc)
    go false t e = ended_at zero place run t e
  run_reads (suc room) place run e = go (run_reads room) (eqb (get_or (drop place bytes) 0 0) tag) refl e where
    after : List ℕ → Outcome Run
    after content =
        passing (body_fault tag n abducibles (numbers content)) File place
        (and_then (read_run tag n abducibles room (place + 3 + length content) bytes) (λ run. accepted (one_more (numbers content) run)))

    go : ((at : ℕ) (last : Run) → read_run tag n abducibles room at bytes ≡ accepted last → RunReads tag n abducibles bytes room at last)
        → (b : Bool) → eqb (get_or (drop place bytes) 0 0) tag ≡ b
        → cond b (and_then (read_field File tag false place bytes) after) (accepted (run_from [] place)) ≡ accepted run
        → RunReads tag n abducibles bytes (suc room) place run
    go ih false t e = ended_at (suc room) place run t e
    go ih true t e =
        let f = through (read_field File tag false place bytes) after e in
        let p = passed (body_fault tag n abducibles (numbers f.value)) File place _ f.after in
        let r = through (read_run tag n abducibles room (place + 3 + length f.value) bytes) _ p.1 in
        let q : one_more (numbers f.value) r.value ≡ run = cc in
        rw q at (further (field_tells File tag false place bytes _ f.first) p.0 (ih _ r.value r.first))

-- ---- what they tell together

-- The numbers of a rule or an integrity rule that passed its tests.
pub record GoodContent (tag n : ℕ) (abducibles content : List ℕ) : Type 0 where
  pub fault : body_fault tag n abducibles content ≡ 0
  pub allowed : length_allowed tag (2 * length content) ≡ true

pub record RunTells (tag n : ℕ) (abducibles : List ℕ) (room place : ℕ) (bytes : List ℕ) (run : Run) : Type 0 where
  pub next_is : run.next ≡ place + fields_length run.contents
  pub within : run.next ≤ length bytes
  pub few : length run.contents ≤ room
  pub bodies : All (GoodContent tag n abducibles) run.contents
  pub stops : get_or (drop run.next bytes) 0 0 ≡ tag → ⊥

pub reads_tell : {tag n : ℕ} {abducibles : List ℕ} {bytes : List ℕ} {room place : ℕ} {run : Run} → (tag ≡ 1 → ⊥)
    → place ≤ length bytes → RunReads tag n abducibles bytes room place run → RunTells tag n abducibles room place bytes run
unfolding fields_length
reads_tell h w (ended stop) = record { next_is = omega arith; within = w; few = omega arith; bodies = none; stops = stop }
reads_tell {tag} h w (further {content} {run} field fault more) =
    let l : 2 * length (numbers content) ≡ length content = length_numbers content (allowed_even tag _ h field.allowed) in
    let after = reads_tell h field.within more in
    record {
      next_is = omega arith;
      within = after.within;
      few = omega arith;
      bodies = each (record { fault = fault; allowed = rw l field.allowed }) after.bodies;
      stops = after.stops;
    }

pub run_tells : (tag n : ℕ) (abducibles : List ℕ) (room place : ℕ) (bytes : List ℕ) (run : Run) → (tag ≡ 1 → ⊥)
    → place ≤ length bytes → read_run tag n abducibles room place bytes ≡ accepted run
    → RunTells tag n abducibles room place bytes run
run_tells tag n abducibles room place bytes run h w e = reads_tell h w (run_reads tag n abducibles bytes room place run e)
