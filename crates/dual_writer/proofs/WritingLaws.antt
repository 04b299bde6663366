-- The two kinds of field, as the loops that write them meet them.
-- Assumes nothing.
use mathlib.Core.Path.{◌≡◌, refl, sym, ap, ◌∙◌}
use mathlib.Core.List.{List, [], ◌∷◌, ◌++◌, map, append_assoc, append-nil}
use Prim.Native.Nat.{ℕ, suc, ◌+◌, ◌*◌, ◌/◌, ◌%◌, ◌≤◌, ◌<◌}
use native.Mathlib.Omega.{arith}
use lib.ListN.{length, get_or, take, drop, set, length-append, length-map}
use Rattle.std.proofs.Common.{Option, Some, None}
use Rattle.literals.specs.declared.Fold.{Fold}
use Rattle.literals.specs.BodyLiterals.{conjugate_number}
use Rattle.papers.specs.Field.{number, numbers}
use Rattle.papers.specs.Encoding.{encode_numbers, encode_field}
use Rattle.papers.proofs.NumberLaws.{length_encoded}
use Rattle.papers.proofs.NumbersWalked.{next_number, no_number}
use Rattle.dual.specs.Bytes.{filled}
use Rattle.dual_writer.specs.Chains.{Chain}
use Rattle.dual_writer.proofs.ChainLaws.{Link, Following, following_starts, following_done, following_link, following_room, following_next}
use Rattle.dual.proofs.FilledLaws.{filled_again, Numbered, numbered_none, numbered_more}

map_more : (f : ℕ → ℕ) (a : List ℕ) (v : ℕ) → map f (a ++ v ∷ []) ≡ map f a ++ f v ∷ []
map_more f [] v = refl
map_more f (x ∷ a) v = ap (λ (l : List ℕ). f x ∷ l) (map_more f a v)

-- A field's heading and first number, for numbers whose count is known.
abbrev pub opening : ℕ → ℕ → ℕ → List ℕ
opening tag size first = tag ∷ size / 256 ∷ size % 256 ∷ first / 256 ∷ first % 256 ∷ []

-- A field is its opening and its other numbers.
pub field_opened : (tag first size : ℕ) (more : List ℕ) → size ≡ 2 + 2 * length more
    → opening tag size first ++ encode_numbers more ≡ encode_field tag (encode_numbers (first ∷ more))
unfolding encode_field encode_numbers
field_opened tag first size more e =
    let l : suc (suc (length (encode_numbers more))) ≡ size = let k = length_encoded more in omega arith in
    rw l

-- The numbers are written: the field stands at the start of the buffer.
pub field_written : (tag first size : ℕ) (more entry start buffer : List ℕ) → size ≡ 2 + 2 * length more → 4 < length entry
    → start ≡ filled (opening tag size first) entry → Numbered 5 start buffer more
    → buffer ≡ filled (encode_field tag (encode_numbers (first ∷ more))) entry
field_written tag first size more entry start buffer e h s w =
    w.is
    ∙ ap (λ (b : List ℕ). filled (take 5 b ++ encode_numbers more) b) s
    ∙ filled_again (opening tag size first) (encode_numbers more) entry (omega arith)
    ∙ ap (λ (x : List ℕ). filled x entry) (field_opened tag first size more e)

-- ---- 09: the default conjugates of a body

pub record Conjugated (start body buffer : List ℕ) (i : ℕ) : Type 0 where
  pub done : List ℕ
  pub split : numbers body ≡ done ++ numbers (drop (2 * i) body)
  pub size : length done ≡ i
  pub written : Numbered 5 start buffer (map conjugate_number done)

pub conjugated_none : (start body : List ℕ) → 5 ≤ length start → Conjugated start body start 0
conjugated_none start body h = record { done = []; split = refl; size = refl; written = numbered_none 5 start h }

module _ (start body buffer : List ℕ) (i : ℕ) (w : Conjugated start body buffer i) (fits : 5 + length body ≤ length start) where
  mapped : length (map conjugate_number w.done) ≡ i
  mapped = length-map w.done conjugate_number ∙ w.size

  pub conjugated_more : i < length body / 2 → {v : ℕ} → v ≡ conjugate_number (number (get_or body (2 * i) 0) (get_or body (2 * i + 1) 0))
      → Conjugated start body (set (set buffer (5 + 2 * i) (v / 256)) (5 + 2 * i + 1) (v % 256)) (i + 1)
  conjugated_more h {v} c =
      let m = mapped in
      let l = number (get_or body (2 * i) 0) (get_or body (2 * i + 1) 0) in
      let n : numbers (drop (2 * i) body) ≡ l ∷ numbers (drop (2 * (i + 1)) body) = next_number body i h in
      let more = numbered_more 5 start buffer (map conjugate_number w.done) w.written (omega arith) (5 + 2 * i) v (omega arith) (omega arith) in
      record {
        done = w.done ++ l ∷ [];
        split = w.split ∙ ap (λ (x : List ℕ). w.done ++ x) n ∙ sym (append_assoc w.done (l ∷ []) (numbers (drop (2 * (i + 1)) body)));
        size = simp length-append (let s = w.size in omega arith);
        written = rw (map_more conjugate_number w.done l, ← c) more;
      }

  pub conjugated_done : length body / 2 ≤ i → Numbered 5 start buffer (map conjugate_number (numbers body))
  conjugated_done h =
      let n : numbers body ≡ w.done = w.split ∙ ap (λ (x : List ℕ). w.done ++ x) (no_number body i h) ∙ append-nil w.done in
      rw n w.written

-- ---- 08: the folds of a literal

pub record Listed (next : List (Option Fold)) (l start buffer : List ℕ) (fold : Option Fold) (at : ℕ) : Type 0 where
  pub count : ℕ
  pub follows : Following next l fold count
  pub at_is : at ≡ 5 + 2 * count
  pub written : Numbered 5 start buffer follows.done

pub listed_none : {next : List (Option Fold)} {l : List ℕ} {fold : Option Fold} (start : List ℕ) → 5 ≤ length start → Chain next fold l
    → Listed next l start start fold 5
unfolding following_starts
listed_none start h c = record { count = 0; follows = following_starts c; at_is = refl; written = numbered_none 5 start h }

module _ (next : List (Option Fold)) (l start buffer : List ℕ) (tip : Option Fold) (at : ℕ) (w : Listed next l start buffer tip at)
    (fits : 5 + 2 * length l ≤ length start) where
  pub listed_done : tip ≡ None → Numbered 5 start buffer l × (at ≡ 5 + 2 * length l)
  listed_done none =
      let d = following_done next l tip w.count w.follows none in
      (rw d.0 at w.written, omega (arith, w.at_is, d.1.0))

  module _ (fold : Fold) (some : tip ≡ Some fold) where
    pub listed_room : at + 1 < length start
    listed_room = omega (arith, w.at_is, following_room next l tip w.count w.follows fold some)

    pub listed_link : Link next fold w.follows.ahead
    listed_link = following_link next l tip w.count w.follows fold some

    pub listed_next : Listed next l start (set (set buffer at (fold.0 / 256)) (at + 1) (fold.0 % 256)) (get_or next fold.0 None) (at + 2)
    unfolding following_next
    listed_next =
        let room = following_room next l tip w.count w.follows fold some in
        let size = w.follows.size in
        let more = numbered_more 5 start buffer w.follows.done w.written (omega arith) in
        record {
          count = w.count + 1;
          follows = following_next next l tip w.count w.follows fold some;
          at_is = omega (arith, w.at_is);
          written = more at fold.0 (omega (arith, w.at_is)) listed_room;
        }
