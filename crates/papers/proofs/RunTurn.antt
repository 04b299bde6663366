-- One turn of `read_run`, as the loop of `read_run` meets it.
-- Assumes nothing.
use mathlib.Core.Path.{◌≡◌, refl, sym, ap}
use mathlib.Core.Bool.{Bool, true, false, true≢false}
use mathlib.Core.List.{List, [], ◌∷◌}
use Prim.Native.Nat.{ℕ, zero, suc, ◌+◌}
use native.Mathlib.Omega.{arith}
use borrow.Author.Tests.{eq-eqb, ne_eqb, eqb-true, eqb-false}
use lib.Dec.{eqb}
use Rattle.std.specs.Prelude.{Some, slice_get}
use Rattle.std.specs.Option.{option_eq}
use lib.ListN.{length, get_or, drop}
use Rattle.papers.specs.declared.Paper.TheVariants.{File}
use Rattle.papers.specs.declared.Fault.{Fault}
use Rattle.papers.specs.Outcome.{Refusal, Outcome, accepted, refused, refusal, and_then}
use Rattle.papers.specs.Field.{numbers, read_field}
use Rattle.papers.specs.Content.{body_fault}
use Rattle.papers.specs.Reading.{Run, run_from, one_more, read_run}
use Rattle.papers.specs.Answers.{run_of}
use Rattle.papers.specs.Told.{tells, fault_number, read_told}
use Rattle.papers.proofs.ReadersGot.{failed_refuses}

-- The tag at a place, where the code asks for one: none is 0.
pub tag_found : (tag place : ℕ) (bytes : List ℕ) → option_eq eqb (slice_get bytes place) (Some tag) ≡ true → get_or (drop place bytes) 0 0 ≡ tag
tag_found tag place [] e = absurd (true≢false (sym e))
tag_found tag zero (b ∷ bytes) e = eqb-true b tag e
tag_found tag (suc place) (b ∷ bytes) e = tag_found tag place bytes e

pub tag_other : (tag place : ℕ) (bytes : List ℕ) → (tag ≡ 0 → ⊥) → option_eq eqb (slice_get bytes place) (Some tag) ≡ false
    → get_or (drop place bytes) 0 0 ≡ tag → ⊥
tag_other tag zero [] some e is = some (sym is)
tag_other tag (suc place) [] some e is = some (sym is)
tag_other tag zero (b ∷ bytes) some e is = eqb-false b tag e is
tag_other tag (suc place) (b ∷ bytes) some e is = tag_other tag place bytes some e is

-- A field in front of others counts one more.
counted : (count : ℕ) (content : List ℕ) (o : Outcome Run)
    → read_told (run_of count) (and_then o (λ run. accepted (one_more content run))) ≡ read_told (run_of (count + 1)) o
unfolding read_told
counted count content (refused r) = refl
counted count content (accepted run) =
    let e : count + suc (length run.contents) ≡ count + 1 + length run.contents = omega arith in
    ap (λ (k : ℕ). tells (record { count = k; next = run.next })) e

module _ (tag n : ℕ) (abducibles bytes : List ℕ) (place : ℕ) where
  -- The tag that stands at the place.
  abbrev here : ℕ
  here = get_or (drop place bytes) 0 0

  -- The run from a place on, where there is room for so many fields.
  abbrev run : ℕ → ℕ → Outcome Run
  run room from = read_run tag n abducibles room from bytes

  pub run_ended : (room : ℕ) → (here ≡ tag → ⊥) → run room place ≡ accepted (run_from [] place)
  unfolding read_run
  run_ended zero h = rw (ne_eqb here tag h)
  run_ended (suc room) h = rw (ne_eqb here tag h)

  module _ (tagged : here ≡ tag) where
    -- There is room for no more exactly where the field is read as one too many.
    pub run_refused : (room : ℕ) (full : Bool) → (room ≡ 0 → full ≡ true) → ((room ≡ 0 → ⊥) → full ≡ false) → {r : Refusal}
        → read_field File tag full place bytes ≡ refused r → run room place ≡ refused r
    unfolding read_run
    run_refused zero full a b e = rw (eq-eqb here tag tagged, ← a refl, e)
    run_refused (suc room) full a b e = rw (eq-eqb here tag tagged, ← b (λ z. omega arith), e)

    module _ (room : ℕ) (content : List ℕ) (read : read_field File tag false place bytes ≡ accepted content) where
      pub run_fault : (f : Fault) → body_fault tag n abducibles (numbers content) ≡ fault_number f
          → run (suc room) place ≡ refused (refusal (fault_number f) File place)
      unfolding read_run
      run_fault f e = rw (eq-eqb here tag tagged, read) (failed_refuses f File place _ e)

      pub run_next : (count : ℕ) → body_fault tag n abducibles (numbers content) ≡ 0
          → read_told (run_of count) (run (suc room) place) ≡ read_told (run_of (count + 1)) (run room (place + 3 + length content))
      unfolding read_run
      run_next count h =
          rw (eq-eqb here tag tagged, read, h) (counted count (numbers content) (run room (place + 3 + length content)))
