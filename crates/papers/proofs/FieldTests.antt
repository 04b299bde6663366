-- Laws of one field as the code meets them: one for each answer of `field_fault`, from the tests at a place of the paper that lead to it.
-- Assumes nothing.
use mathlib.Core.Path.{◌≡◌, sym, ap, ◌∙◌}
use mathlib.Core.Bool.{Bool, true, false}
use mathlib.Core.List.{List}
use Prim.Native.Nat.{ℕ, ◌+◌, ◌-◌, ◌≤◌, ◌<◌}
use native.Mathlib.Omega.{arith}
use borrow.Author.Tests.{le-leb, lt-leb, eq-eqb, ne_eqb}
use lib.Dec.{leb}
use lib.ListN.{length, get_or, take, drop, length-drop}
use lib.Seq.{get_or-drop, drop-drop}
use Rattle.papers.specs.declared.Paper.{Paper}
use Rattle.papers.specs.declared.Fault.{Fault}
use Rattle.papers.specs.declared.Fault.TheVariants.{Cut, StrayField, Misfit, Overfull}
use Rattle.std.specs.Prelude.{Ok, Err}
use Rattle.papers.specs.Outcome.{accepted, refused, refusal, check}
use Rattle.papers.specs.Told.{fault_number, check_told}
use Rattle.papers.specs.Field.{number, size_of, content_of, length_allowed, field_fault, read_field}
use Rattle.papers.proofs.FieldLaws.{faultless}
use Rattle.papers.proofs.ReadersGot.{failed_refuses}

-- What stands at a place is the first byte from there on.
pub tag_there : (place : ℕ) (bytes : List ℕ) → get_or (drop place bytes) 0 0 ≡ get_or bytes place 0
tag_there place bytes = get_or-drop place bytes 0 0 ∙ ap (λ (i : ℕ). get_or bytes i 0) (omega arith)

-- The length that a field gives, by the two bytes after its tag.
pub size_there : (place : ℕ) (bytes : List ℕ) → size_of (drop place bytes) ≡ number (get_or bytes (place + 1) 0) (get_or bytes (place + 1 + 1) 0)
unfolding size_of
size_there place bytes =
    rw (get_or-drop place bytes 1 0, get_or-drop place bytes 2 0)
    (ap (λ (i : ℕ). number (get_or bytes (place + 1) 0) (get_or bytes i 0)) (omega arith))

module _ (tag : ℕ) (full : Bool) (place : ℕ) (bytes : List ℕ) where
  abbrev fault : ℕ
  fault = field_fault tag full (drop place bytes)

  -- How many bytes there are from the place on.
  abbrev left : ℕ
  left = length bytes - place

  pub fault_cut : left < 3 → check_told (Err Cut) ≡ fault
  unfolding field_fault check_told
  fault_cut h = rw (length-drop place bytes, lt-leb 3 left h)

  module _ (heading : 3 ≤ left) where
    pub fault_stray : (get_or bytes place 0 ≡ tag → ⊥) → check_told (Err StrayField) ≡ fault
    unfolding field_fault check_told
    fault_stray h = rw (length-drop place bytes, le-leb 3 left heading, tag_there place bytes, ne_eqb (get_or bytes place 0) tag h)

    module _ (tagged : get_or bytes place 0 ≡ tag) where
      pub fault_full : full ≡ true → check_told (Err Overfull) ≡ fault
      unfolding field_fault check_told
      fault_full h = rw (length-drop place bytes, le-leb 3 left heading, tag_there place bytes, eq-eqb (get_or bytes place 0) tag tagged, h)

      module _ (room : full ≡ false) {size : ℕ} (is : size ≡ number (get_or bytes (place + 1) 0) (get_or bytes (place + 1 + 1) 0)) where
        -- Heading, tag and count passed: the length is left, and the content.
        by_size : fault ≡ check (length_allowed tag size) 3 (check (leb (3 + size) left) 1 0)
        unfolding field_fault
        by_size =
            let sized : size_of (drop place bytes) ≡ size = size_there place bytes ∙ sym is in
            rw (length-drop place bytes, le-leb 3 left heading, tag_there place bytes, eq-eqb (get_or bytes place 0) tag tagged, room, sized)

        pub fault_misfit : length_allowed tag size ≡ false → check_told (Err Misfit) ≡ fault
        unfolding check_told
        fault_misfit h = rw (by_size, h)

        pub fault_short : length_allowed tag size ≡ true → left - 3 < size → check_told (Err Cut) ≡ fault
        unfolding check_told
        fault_short a h = rw (by_size, a, lt-leb (3 + size) left (omega arith))

        pub fault_none : length_allowed tag size ≡ true → size ≤ left - 3 → check_told (Ok tt) ≡ fault
        unfolding check_told
        fault_none a h = rw (by_size, a, le-leb (3 + size) left (omega arith))

-- ---- the answer for a field

module _ (paper : Paper) (tag : ℕ) (full : Bool) (place : ℕ) (bytes : List ℕ) where
  pub field_refused : (f : Fault) → field_fault tag full (drop place bytes) ≡ fault_number f
      → read_field paper tag full place bytes ≡ refused (refusal (fault_number f) paper place)
  unfolding read_field
  field_refused f e = failed_refuses f paper place (accepted (content_of (drop place bytes))) e

  module _ (none : field_fault tag full (drop place bytes) ≡ 0) where
    -- A heading stands there.
    pub field_heading : place + 2 < length bytes
    field_heading = let f = (faultless tag full (drop place bytes) none).0 in omega (arith, length-drop place bytes)

    module _ {size : ℕ} (sized : size ≡ number (get_or bytes (place + 1) 0) (get_or bytes (place + 1 + 1) 0)) where
      size_is : size_of (drop place bytes) ≡ size
      size_is = size_there place bytes ∙ sym sized

      pub field_within : place + 3 + size ≤ length bytes
      field_within =
          let f : 3 + size_of (drop place bytes) ≤ length (drop place bytes) = (faultless tag full (drop place bytes) none).1.1.1.1 in
          let s = size_is in
          let h = field_heading in
          omega (arith, length-drop place bytes)

      -- The content, as the part of the paper that the code takes.
      pub field_content : read_field paper tag full place bytes ≡ accepted (take (place + 3 + size - (place + 3)) (drop (place + 3) bytes))
      unfolding read_field content_of
      field_content =
          let long : place + 3 + size - (place + 3) ≡ size = omega arith in
          rw (none, size_is, drop-drop, long)
