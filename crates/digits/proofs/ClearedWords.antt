-- The first words of a row cleared, and the words behind them kept.
-- Assumes nothing.
use mathlib.Core.Path.{◌≡◌, refl, ◌∙◌}
use mathlib.Core.List.{List}
use Prim.Native.Nat.{ℕ, ◌<◌}
use native.Mathlib.Omega.{arith}
use lib.ListN.{length, get_or, set}
use lib.Seq.{get_or-set_other}
use Rattle.lanes.specs.Lanes.{KeptFrom, Written}
use Rattle.lanes.specs.Words.{same_word}

pub kept_same : (n : ℕ) (words : List ℕ) → KeptFrom n words words
kept_same n words = record { at = λ o h. refl }

pub kept_through : {n : ℕ} {before words after : List ℕ} → KeptFrom n before words → KeptFrom n words after → KeptFrom n before after
kept_through k m = record { at = λ o h. m.at o h ∙ k.at o h }

pub kept_set : {n : ℕ} {before : List ℕ} (words : List ℕ) → KeptFrom n before words → (o x : ℕ) → o < n → KeptFrom n before (set words o x)
kept_set words k o x h = record { at = λ p m. get_or-set_other words o p x 0 (λ q. omega arith) ∙ k.at p m }

-- No lane is set in the first n words of a row, and the others stay as they were.
pub record Cleared (n : ℕ) (before after : List ℕ) : Type 0 where
  pub none : (o : ℕ) → o < n → get_or after o 0 ≡ 0
  pub kept : KeptFrom n before after
  pub long : length after ≡ 513

pub cleared : {n : ℕ} {before after : List ℕ} → Written n (same_word 0) before after × (length after ≡ 513) → Cleared n before after
unfolding same_word
cleared w = record { none = w.0.at; kept = w.0.beyond; long = w.1 }
