-- Falsity in sixty-four scenarios at once, as it is read from the entries of a dual that stand as rows of numbers. p is a program, l a lane.
use Rattle.std.specs.Prelude.{◌≡◌, Bool, true, false, not, List, ℕ, ◌<◌, T, eqb, length, get_or, set}
use Rattle.std.specs.Int.Bits.{bit_and, bit_or}
use Rattle.literals.specs.Numbering.{judged}
use Rattle.papers.specs.Program.{Program}
use Rattle.papers.specs.Valid.{Valid}
use Rattle.dual.specs.Table.{dual}
use Rattle.parts.specs.Parts.{place_of}
use Rattle.rows.specs.Rows.{entry_row, entry_rows, StandsAt, Stand}
use Rattle.papers.specs.Tests.{◌and◌, ◌or◌}
use Rattle.model.specs.Sets.{Set, has}
use Rattle.model.specs.Falsity.{some_holds, entry_holds}
use Rattle.lanes.specs.Lanes.{lane_bit, lane, KeptFrom}
use Rattle.lanes.specs.Words.{Literals, total}

-- ---- entries as rows

-- The entry of a judged literal stands at a place.
pub record EntryStands (p : Program) (rows : List ℕ) (place : ℕ) : Type 0 where
  pub valid : Valid p
  pub within : get_or rows place 0 < judged p.atoms
  pub stands : StandsAt (entry_row p (get_or rows place 0)) rows place

-- Entries stand at the visited places,
pub record EntriesVisited (p : Program) (rows visits : List ℕ) : Type 0 where
  pub valid : Valid p
  pub at : (i : ℕ) → i < length visits → EntryStands p rows (place_of (get_or visits i 0))

-- and all of them are visited, in parts.
pub record EntriesStand (p : Program) (rows visits : List ℕ) : Type 0 where
  pub valid : Valid p
  pub stand : Stand 1 (entry_rows p) rows visits

-- ---- the words

-- In each lane: one of these literals holds, of however many objective literals they speak.
pub record SomeWord (listed truth falses : List ℕ) (word : ℕ) : Type 0 where
  pub at : (n l : ℕ) → Literals n listed → lane_bit l word ≡ some_holds (lane n l truth) (lane n l falses) listed

-- Of some lanes: o has an 08 field each of whose folds has one.
pub record EntryWord (p : Program) (o : ℕ) (truth falses : List ℕ) (lanes word : ℕ) : Type 0 where
  pub at : (l : ℕ) → l < 64
      → lane_bit l word
      ≡ (lane_bit l lanes and entry_holds (dual p) (lane (judged p.atoms) l truth) (lane (judged p.atoms) l falses) (dual p) o)

-- ---- the greatest set

-- "Each o in it backed by" what is given, "or an 08 field".
pub record GivenBacked (p : Program) (given trues set : Set) : Type 0 where
  pub sized : length set ≡ judged p.atoms
  pub each : (o : ℕ) → T (has set o) → T (has given o or entry_holds (dual p) trues set (dual p) o)

-- "The greatest set" of this kind.
pub record GreatestGiven (p : Program) (given trues set : Set) : Type 0 where
  pub backed : GivenBacked p given trues set
  pub holds : (t : Set) → GivenBacked p given trues t → (o : ℕ) → T (has t o) → T (has set o)

-- In each lane; past the judged literals the words stay.
pub record FalseWords (p : Program) (truth backing before after : List ℕ) : Type 0 where
  pub at : (l : ℕ) → l < 64
      → GreatestGiven p (lane (judged p.atoms) l backing) (lane (judged p.atoms) l truth) (lane (judged p.atoms) l after)
  pub beyond : KeptFrom (judged p.atoms) before after

-- o leaves the lanes in which nothing backs it.
pub record Dropped (p : Program) (o : ℕ) (truth backing before after : List ℕ) (changed : Bool) : Type 0 where
  pub lanes : ℕ
  pub word : ℕ
  pub asked : (l : ℕ) → l < 64 → lane_bit l lanes ≡ (lane_bit l (get_or before o 0) and not (lane_bit l (get_or backing o 0)))
  pub holds : EntryWord p o truth before lanes word
  pub is : after ≡ set before o (bit_and (get_or before o 0) (bit_or (get_or backing o 0) word))
  pub told : changed ≡ not (eqb (bit_and (get_or before o 0) (bit_or (get_or backing o 0) word)) (get_or before o 0))

-- What dropping the first `upto` objective literals that are visited, where they are not backed, does to the words.
pub record Narrowed (visited : ℕ → ℕ) (upto : ℕ) (p : Program) (truth backing before after : List ℕ) : Type 0 where
  pub long : length after ≡ 513
  pub beyond : KeptFrom (judged p.atoms) before after
  -- Nothing comes in, and only what is visited leaves.
  pub less : (l o : ℕ) → T (lane_bit l (get_or after o 0)) → T (lane_bit l (get_or before o 0))
  pub others : (o : ℕ) → ((i : ℕ) → i < upto → visited i ≡ o → ⊥) → get_or after o 0 ≡ get_or before o 0
  -- Nothing of a backed set is lost.
  pub keeps : (l : ℕ) → l < 64 → (t : Set) → GivenBacked p (lane (judged p.atoms) l backing) (lane (judged p.atoms) l truth) t
      → ((o : ℕ) → T (has t o) → T (lane_bit l (get_or before o 0))) → (o : ℕ) → T (has t o) → T (lane_bit l (get_or after o 0))

-- Of the first `upto` that are visited, what is in is backed.
pub record BackedTo (visited : ℕ → ℕ) (upto : ℕ) (p : Program) (truth backing falses : List ℕ) : Type 0 where
  pub at : (l i : ℕ) → l < 64 → i < upto → T (lane_bit l (get_or falses (visited i) 0))
      → T (lane_bit l (get_or backing (visited i) 0)
      or entry_holds (dual p) (lane (judged p.atoms) l truth) (lane (judged p.atoms) l falses) (dual p) (visited i))

-- A pass: where nothing changed, each of them is backed; where something did, there are fewer.
pub record DroppedTo (visited : ℕ → ℕ) (upto : ℕ) (p : Program) (truth backing before after : List ℕ) (changed : Bool) : Type 0 where
  pub narrowed : Narrowed visited upto p truth backing before after
  pub same : changed ≡ false → after ≡ before
  pub backed : changed ≡ false → BackedTo visited upto p truth backing before
  pub fewer : changed ≡ true → total after < total before

-- What closing a part does to the words: of those visited, what is left is backed.
pub record PartDropped (visited : ℕ → ℕ) (count : ℕ) (p : Program) (truth backing before after : List ℕ) : Type 0 where
  pub narrowed : Narrowed visited count p truth backing before after
  pub backed : BackedTo visited count p truth backing after
