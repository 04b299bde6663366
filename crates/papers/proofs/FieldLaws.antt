-- Laws of one field: what a whole one tells.
-- Assumes nothing.
use mathlib.Core.Path.{◌≡◌, refl, sym, ap, ◌∙◌}
use mathlib.Core.Bool.{Bool, true, false, ◌&&◌, cond, true≢false}
use mathlib.Core.List.{List}
use Prim.Native.Nat.{ℕ, ◌+◌, ◌-◌, ◌*◌, ◌%◌, ◌≤◌}
use native.Mathlib.Omega.{arith}
use borrow.Author.Tests.{leb-true, eqb-true, not-true, ne_eqb}
use lib.Dec.{eqb, leb}
use lib.ListN.{length, get_or, take, drop, length-drop}
use lib.Seq.{length-take-le, drop-drop}
use Rattle.papers.specs.declared.Paper.{Paper}
use Rattle.papers.specs.Outcome.{accepted}
use Rattle.papers.specs.Field.{size_of, content_of, fewest, most, length_allowed, field_fault, read_field}
use Rattle.papers.proofs.Checks.{checked, passed}

-- The field of a tag at a place of a paper, whole.
pub record Whole (tag : ℕ) (full : Bool) (place : ℕ) (bytes content : List ℕ) : Type 0 where
  pub tagged : get_or (drop place bytes) 0 0 ≡ tag
  pub room : full ≡ false
  pub size : size_of (drop place bytes) ≡ length content
  pub allowed : length_allowed tag (length content) ≡ true
  pub within : place + 3 + length content ≤ length bytes
  pub content_is : content ≡ take (length content) (drop (place + 3) bytes)

-- The five checks passed.
pub faultless : (tag : ℕ) (full : Bool) (bytes : List ℕ) → field_fault tag full bytes ≡ 0
    → (3 ≤ length bytes) × ((get_or bytes 0 0 ≡ tag) × ((full ≡ false) × ((length_allowed tag (size_of bytes) ≡ true) × (3 + size_of bytes ≤ length bytes))))
unfolding field_fault
faultless tag full bytes e =
    let a = checked _ 0 _ e in
    let b = checked _ 1 _ a.1 in
    let c = checked _ 8 _ b.1 in
    let d = checked _ 2 _ c.1 in
    let f = checked _ 0 _ d.1 in
    (leb-true _ _ a.0, (eqb-true _ _ b.0, (not-true _ c.0, (d.0, leb-true _ _ f.0))))

pub field_tells : (paper : Paper) (tag : ℕ) (full : Bool) (place : ℕ) (bytes content : List ℕ)
    → read_field paper tag full place bytes ≡ accepted content → Whole tag full place bytes content
unfolding read_field content_of
field_tells paper tag full place bytes content e =
    let p = passed _ paper place _ e in
    let f = faultless tag full (drop place bytes) p.0 in
    let l : length (drop place bytes) ≡ length bytes - place = length-drop place bytes in
    let q : take (size_of (drop place bytes)) (drop 3 (drop place bytes)) ≡ content = cc in
    let l3 : length (drop 3 (drop place bytes)) ≡ length (drop place bytes) - 3 = length-drop 3 (drop place bytes) in
    let s : length content ≡ size_of (drop place bytes) = sym (ap length q) ∙ length-take-le _ _ (omega arith) in
    record {
      tagged = f.1.0;
      room = f.1.1.0;
      size = sym s;
      allowed = rw s f.1.1.1.0;
      within = omega arith;
      content_is = sym q ∙ rw (← s, drop-drop);
    }

-- ---- lengths

-- "All two-byte numbers": but for the edition an allowed length is even.
pub allowed_even : (tag len : ℕ) → (tag ≡ 1 → ⊥) → length_allowed tag len ≡ true → len % 2 ≡ 0
unfolding length_allowed
allowed_even tag len h e = go (eqb (len % 2) 0) refl (rw (ne_eqb tag 1 h) at e) where
  go : (b : Bool) → eqb (len % 2) 0 ≡ b → cond b (leb (2 * fewest tag) len && leb len (2 * most tag)) false ≡ true → len % 2 ≡ 0
  go true t e = eqb-true _ _ t
  go false t e = absurd (true≢false cc)
