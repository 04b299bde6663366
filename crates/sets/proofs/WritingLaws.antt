-- Words that are written by a function, as the code that gives it meets them.
-- Assumes nothing.
use mathlib.Core.Path.{◌≡◌, ap, ◌∙◌}
use mathlib.Core.List.{List, ◌++◌}
use Prim.Native.Nat.{ℕ, ◌+◌, ◌-◌, ◌<◌}
use native.Mathlib.Omega.{arith}
use lib.ListN.{get_or, drop, get_or-append, replicate, length-replicate}
use Rattle.std.proofs.lemmas.List.{get_or-append_right, get_or-replicate, get_or-drop}
use Rattle.lanes.specs.Lanes.{Written}
use Rattle.lanes.specs.Words.{same_word}
use Rattle.sets.specs.Writing.{WrittenBy}

-- A function that answers one word at each number.
pub written_by : {Answers : ℕ → ℕ → Type 0} {n : ℕ} {before after : List ℕ} (word : ℕ → ℕ) → WrittenBy Answers n before after
    → ((o x : ℕ) → o < n → Answers o x → x ≡ word o) → Written n word before after
written_by {after = after} word w is = record { at = λ o h. is o (get_or after o 0) h (w.at o h); beyond = w.beyond }

-- The first words filled with one.
pub filled : (n word : ℕ) (before : List ℕ) → Written n (same_word word) before (replicate n word ++ drop n before)
unfolding same_word
filled n word before = record {
  at = λ o h.
      get_or-append (replicate n word) (drop n before) 0 o (omega (arith, length-replicate n word)) ∙ get_or-replicate n o word 0 h;
  beyond = record {
    at = λ o h.
        get_or-append_right (replicate n word) (drop n before) n o 0 (length-replicate n word) h
        ∙ get_or-drop n before (o - n) 0
        ∙ ap (λ k. get_or before k 0) (let e : n + (o - n) ≡ o = omega arith in e);
  };
}
