-- Text put into a buffer piece by piece. Assumes nothing.
use mathlib.Core.Path.{◌≡◌, refl, sym, ap, ◌∙◌}
use mathlib.Core.List.{List, [], ◌∷◌, ◌++◌, append_assoc}
use Prim.Native.Nat.{ℕ, suc, ◌+◌, ◌≤◌}
use native.Mathlib.Omega.{arith}
use lib.ListN.{length, set, take, drop, length-set, length-append}
use lib.Seq.{sets, sets-eq, set_out}
use Rattle.decimals.specs.Text.{written, Put, spaced, line}

-- Putting text leaves a buffer's length.
pub written_length : (at : ℕ) (text buffer : List ℕ) → length (written at text buffer) ≡ length buffer
unfolding written
written_length at [] buffer = refl
written_length at (b ∷ text) buffer = written_length (suc at) text (set buffer at b) ∙ length-set buffer at b

-- One text after another is one text.
pub written_append : (at : ℕ) (text more buffer : List ℕ) → written (at + length text) more (written at text buffer) ≡ written at (text ++ more) buffer
unfolding written
written_append at [] more buffer = ap (λ (k : ℕ). written k more buffer) (let e : at + 0 ≡ at = omega arith in e)
written_append at (b ∷ text) more buffer =
    ap (λ (k : ℕ). written k more (written (suc at) text (set buffer at b))) (let e : at + suc (length text) ≡ suc at + length text = omega arith in e)
    ∙ written_append (suc at) text more (set buffer at b)

pub written_one : (at b : ℕ) (buffer : List ℕ) → set buffer at b ≡ written at (b ∷ []) buffer
unfolding written
written_one at b buffer = refl

-- A byte past the end is left out.
pub written_out : (at b : ℕ) (buffer : List ℕ) → length buffer ≤ at → buffer ≡ written at (b ∷ []) buffer
unfolding written
written_out at b buffer h = sym (set_out buffer at b h)

written_sets : (at : ℕ) (text buffer : List ℕ) → written at text buffer ≡ sets buffer at text
unfolding written
written_sets at [] buffer = refl
written_sets at (b ∷ text) buffer = written_sets (suc at) text (set buffer at b)

-- Text that fits: the bytes before it, the text, the bytes after it.
pub written_fits : (at : ℕ) (text buffer : List ℕ) → at + length text ≤ length buffer
    → written at text buffer ≡ take at buffer ++ text ++ drop (at + length text) buffer
written_fits at text buffer h = written_sets at text buffer ∙ sets-eq text buffer at h

-- Two texts, one after the other.
pub put_two : {at : ℕ} {buffer : List ℕ} {next : ℕ} {between : List ℕ} {end : ℕ} {after : List ℕ} (x y : List ℕ)
    → Put at x buffer next between → Put next y between end after → Put at (x ++ y) buffer end after
put_two {at = at} {buffer = buffer} {between = between} x y p q =
    record {
      place = let l = length-append x y in let a = p.place in let b = q.place in omega arith;
      bytes =
          q.bytes
          ∙ ap (λ (k : ℕ). written k y between) p.place
          ∙ ap (written (at + length x) y) p.bytes
          ∙ written_append at x y buffer;
    }

-- ---- items

-- What follows a line's first item.
unfoldable pub further : List (List ℕ) → List ℕ
further [] = 10 ∷ []
further (item ∷ more) = 32 ∷ (item ++ further more)

pub spaced_further : (items : List (List ℕ)) → spaced items ++ (10 ∷ []) ≡ further items
unfolding spaced further
spaced_further [] = refl
spaced_further (item ∷ more) =
    ap (λ (l : List ℕ). 32 ∷ l) (append_assoc item (spaced more) (10 ∷ []) ∙ ap (λ (l : List ℕ). item ++ l) (spaced_further more))

pub line_further : (first : List ℕ) (more : List (List ℕ)) → line first more ≡ first ++ further more
unfolding line
line_further first more = ap (λ (l : List ℕ). first ++ l) (spaced_further more)

pub spaced_append : (a b : List (List ℕ)) → spaced (a ++ b) ≡ spaced a ++ spaced b
unfolding spaced
spaced_append [] b = refl
spaced_append (item ∷ a) b =
    ap (λ (l : List ℕ). 32 ∷ l) (ap (λ (l : List ℕ). item ++ l) (spaced_append a b) ∙ sym (append_assoc item (spaced a) (spaced b)))
