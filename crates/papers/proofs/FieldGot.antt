-- What a field that was read tells, as the code meets it: its content, and of that the length.
-- Assumes nothing.
use mathlib.Core.Path.{◌≡◌, refl, ap, ◌∙◌}
use mathlib.Core.List.{List}
use mathlib.Core.Bool.{Bool, true, false, ◌&&◌, cond, true≢false}
use Prim.Native.Nat.{ℕ, ◌*◌, ◌%◌, ◌≤◌}
use borrow.Author.Tests.{leb-true, eqb-true, ne_eqb}
use lib.Dec.{eqb, leb}
use Rattle.std.specs.Prelude.{Ok}
use Rattle.std.specs.Borrow.{Bor}
use Rattle.std.specs.declared.result.Result.{Result}
use Rattle.papers.specs.declared.Paper.{Paper}
use Rattle.papers.specs.declared.Refusal as declared
use Rattle.papers.specs.Outcome.{accepted}
use Rattle.papers.specs.Field.{fewest, most, length_allowed, read_field}
use Rattle.papers.specs.Told.{read_told, value_told}
use Rattle.papers.proofs.Checks.{both}
use Rattle.papers.proofs.FieldLaws.{Whole, field_tells}
use Rattle.papers.proofs.ReadersGot.{got_accepted}

pub record Got (paper : Paper) (tag : ℕ) (full : Bool) (place : ℕ) (bytes content : List ℕ) : Type 0 where
  pub read : read_field paper tag full place bytes ≡ accepted content
  pub whole : Whole tag full place bytes content

module _ (paper : Paper) (tag : ℕ) (full : Bool) (place : ℕ) (bytes : List ℕ) {got : Result (Bor (List ℕ)) declared.Refusal}
    (is : value_told (λ (s : Bor (List ℕ)). s.now) got ≡ read_told (λ (l : List ℕ). l) (read_field paper tag full place bytes)) where
  pub got_content : {s : Bor (List ℕ)} → got ≡ Ok s → Got paper tag full place bytes s.now
  got_content e =
      let r = got_accepted (λ s. s.now) (λ l. l) (read_field paper tag full place bytes) is e in
      let read = r.is ∙ ap accepted r.tells_it in
      record { read = read; whole = field_tells paper tag full place bytes _ read }

-- ---- lengths

pub edition_length : (len : ℕ) → length_allowed 0x01 len ≡ true → len ≡ 1
unfolding length_allowed
edition_length len h = eqb-true len 1 h

-- Any other field has an even length between its bounds.
pub record Pairs (tag len : ℕ) : Type 0 where
  pub even : len % 2 ≡ 0
  pub least : 2 * fewest tag ≤ len
  pub greatest : len ≤ 2 * most tag

pub pairs_length : (tag len : ℕ) → (tag ≡ 1 → ⊥) → length_allowed tag len ≡ true → Pairs tag len
unfolding length_allowed
pairs_length tag len n h = by (eqb (len % 2) 0) refl (rw (ne_eqb tag 1 n) at h) where
  by : (b : Bool) → eqb (len % 2) 0 ≡ b → cond b (leb (2 * fewest tag) len && leb len (2 * most tag)) false ≡ true → Pairs tag len
  by true q k = let t = both _ _ k in record { even = eqb-true (len % 2) 0 q; least = leb-true _ _ t.0; greatest = leb-true _ _ t.1 }
  by false q k = absurd (true≢false cc)
