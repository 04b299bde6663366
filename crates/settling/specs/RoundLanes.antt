-- Rounds in sixty-four scenarios at once. p is a program; `trues` and `falses` are the words of the true and the false abducible literals.
use Rattle.std.specs.Prelude.{◌≡◌, cond, List, ℕ, ◌+◌, ◌<◌, T, get_or}
use Rattle.std.specs.Int.Bits.{bit_or}
use Rattle.literals.specs.Numbering.{judged}
use Rattle.papers.specs.Program.{Program}
use Rattle.papers.specs.Valid.{Valid}
use Rattle.model.specs.Sets.{has}
use Rattle.model.specs.Model.{true_set, possible_set, false_set, rounds, model}
use Rattle.rows.specs.Rows.{rule_rows, Stand}
use Rattle.closing.specs.FalseWords.{EntriesStand}
use Rattle.lanes.specs.Lanes.{lane_bit, lane, NoneBeyond, KeptFrom, Changed, Written, word_at}
use Rattle.digits.specs.Digits.{AbducibleLanes}
use Rattle.settling.specs.declared.Moved.{Moved}

-- The rules of a valid program stand as rows of numbers at the visited places,
pub record RulesIn (p : Program) (rules visits : List ℕ) : Type 0 where
  pub valid : Valid p
  pub stand : Stand 0 (rule_rows p) rules visits

-- and its dual too.
pub record Decoded (p : Program) (rules rule-visits entries entry-visits : List ℕ) : Type 0 where
  pub rules_in_lem : RulesIn p rules rule-visits
  pub entries_in : EntriesStand p entries entry-visits

-- T(j+1) by F(j) in each lane, begun from what is true already: T(j), as long as it is a part of T(j+1).
pub record NextTrue (p : Program) (trues t f before after : List ℕ) : Type 0 where
  pub true_in : (base l : ℕ) (falses : List ℕ) → l < 64 → AbducibleLanes p base trues falses
      → ((o : ℕ) → T (has (lane (judged p.atoms) l t) o) → T (has (true_set p (base + l) (lane (judged p.atoms) l f)) o))
      → lane (judged p.atoms) l after ≡ true_set p (base + l) (lane (judged p.atoms) l f)
  pub beyond : KeptFrom (judged p.atoms) before after

-- F(j+1) by T(j) in each lane.
pub record NextFalse (p : Program) (falses t before after : List ℕ) : Type 0 where
  pub false_in : (base l : ℕ) (trues : List ℕ) → l < 64 → AbducibleLanes p base trues falses
      → lane (judged p.atoms) l after ≡ false_set p (base + l) (lane (judged p.atoms) l t)
  pub beyond : KeptFrom (judged p.atoms) before after

-- Made anew where something has moved in some lane, else left as it is.
pub record MadeIf (moved : ℕ) (made : Type 0) (before after : List ℕ) : Type 0 where
  pub anew : (moved ≡ 0 → ⊥) → made
  pub left : moved ≡ 0 → after ≡ before

-- A round: T(j+1) and F(j+1), made anew or at hand, taken over for T(j) and F(j), and the lanes in which they are others.
pub record Round (p : Program) (trues falses : List ℕ) (moved moved' : Moved) (next-t next-t' next-f next-f' t t' f f' : List ℕ) : Type 0 where
  pub true_made : MadeIf moved.f (NextTrue p trues t f next-t next-t') next-t next-t'
  pub false_made : MadeIf moved.t (NextFalse p falses t next-f next-f') next-f next-f'
  pub true_moved : Changed (judged p.atoms) t next-t' moved'.t
  pub false_moved : Changed (judged p.atoms) f next-f' moved'.f
  pub true_taken : Written (judged p.atoms) (word_at next-t') t t'
  pub false_taken : Written (judged p.atoms) (word_at next-f') f f'

-- The lanes that a round has changed.
abbrev pub changed_lanes : Moved → ℕ
changed_lanes moved = bit_or moved.t moved.f

-- A number in the lanes of a word, the others as they were.
pub record MarkedLanes (word number : ℕ) (before after : List ℕ) : Type 0 where
  pub at : (l : ℕ) → l < 64 → get_or after l 0 ≡ cond (lane_bit l word) number (get_or before l 0)

-- The models of the scenarios base + l and their round counts, each in its lane.
pub record SettledLanes (p : Program) (base : ℕ) (t f counts : List ℕ) : Type 0 where
  pub true_in : (l : ℕ) → l < 64 → lane (judged p.atoms) l t ≡ (model p (base + l)).trues
  pub false_in : (l : ℕ) → l < 64 → lane (judged p.atoms) l f ≡ (model p (base + l)).falses
  pub counted : (l : ℕ) → l < 64 → get_or counts l 0 ≡ rounds p (base + l)

-- "In working, a model of 513 entries is held": P of the model too, which is by its T, and past the N judged literals nothing in T, P or F.
pub record HeldLanes (p : Program) (base : ℕ) (t possible f : List ℕ) : Type 0 where
  pub possible_in : (l : ℕ) → l < 64 → lane (judged p.atoms) l possible ≡ possible_set p (base + l) (model p (base + l)).trues
  pub true_beyond : NoneBeyond (judged p.atoms) t
  pub possible_beyond : NoneBeyond (judged p.atoms) possible
  pub false_beyond : NoneBeyond (judged p.atoms) f
