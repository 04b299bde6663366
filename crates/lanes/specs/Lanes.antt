-- Sixty-four scenarios at once: bit l of word o says whether o is in the set of lane l.
use Rattle.std.specs.Prelude.{◌≡◌, Bool, true, false, cond, List, ℕ, ◌/◌, ◌%◌, ◌^◌, ◌≤◌, ◌<◌, eqb, get_or}
use Rattle.std.specs.Int.Bits.{bit_or}
use Rattle.literals.specs.Numbering.{explicit_conjugate, listed}
use Rattle.model.specs.Sets.{Set, set_of}

-- Bit l of a word.
unfoldable pub lane_bit : ℕ → ℕ → Bool
lane_bit l w = eqb (w / 2 ^ l % 2) 1

-- The set of lane l, of n flags.
unfoldable pub lane : ℕ → ℕ → List ℕ → Set
lane n l words = set_of n (λ o. lane_bit l (get_or words o 0))

-- Past the first n words no lane is set.
pub record NoneBeyond (n : ℕ) (words : List ℕ) : Type 0 where
  pub at : (o : ℕ) → n ≤ o → get_or words o 0 ≡ 0

-- Past the first n words a row stays as it was.
pub record KeptFrom (n : ℕ) (before after : List ℕ) : Type 0 where
  pub at : (o : ℕ) → n ≤ o → get_or after o 0 ≡ get_or before o 0

-- The first n words of a row are written, each as said; past them it stays.
pub record Written (n : ℕ) (word : ℕ → ℕ) (before after : List ℕ) : Type 0 where
  pub at : (o : ℕ) → o < n → get_or after o 0 ≡ word o
  pub beyond : KeptFrom n before after

-- What backs o besides its 08 field, in each lane: its conjugate in T(j), or a false abducible literal.
unfoldable pub backing_word : ℕ → List ℕ → List ℕ → ℕ → ℕ
backing_word n trues falses o = bit_or (cond (listed n o) (get_or trues (explicit_conjugate o) 0) 0) (get_or falses o 0)

-- The lanes in which two rows of words are different sets of n flags.
pub record Changed (n : ℕ) (before after : List ℕ) (word : ℕ) : Type 0 where
  pub same : (l : ℕ) → lane_bit l word ≡ false → lane n l before ≡ lane n l after
  pub other : (l : ℕ) → lane_bit l word ≡ true → lane n l before ≡ lane n l after → ⊥

-- Word o of a row.
abbrev pub word_at : List ℕ → ℕ → ℕ
word_at words o = get_or words o 0
