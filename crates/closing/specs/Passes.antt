-- Passes over rows: what rows do to 64 sets, one after the other. `Puts` says of a row at a place what it does, and whether it changes a word.
use Rattle.std.specs.Prelude.{◌≡◌, Bool, true, false, List, ℕ, ◌+◌, ◌-◌, ◌<◌, length, get_or, take, drop}
use Rattle.papers.specs.Tests.{◌or◌}
use Rattle.parts.specs.Parts.{place_of, PartEnd}

-- Where nothing changed the words stay, and else there is less to be done.
pub record Passing (left_over : List ℕ → ℕ) (before after : List ℕ) (changed : Bool) : Type 0 where
  pub same : changed ≡ false → after ≡ before
  pub less : changed ≡ true → left_over after < left_over before

-- The first rows of those that are visited, one after the other, and whether one of them changed a word.
pub data Ran (Puts : ℕ → List ℕ → List ℕ → Bool → Type 0) (visits before : List ℕ) : ℕ → List ℕ → Bool → Type 0 where
  none_ran : Ran Puts visits before 0 before false
  one_ran : {count : ℕ} {words after : List ℕ} {changed more : Bool} → Ran Puts visits before count words changed → count < length visits
      → Puts (place_of (get_or visits count 0)) words after more → Ran Puts visits before (count + 1) after (more or changed)

-- Passes that have changed a word.
pub data Passes (Puts : ℕ → List ℕ → List ℕ → Bool → Type 0) (visits before : List ℕ) : List ℕ → Type 0 where
  no_pass : Passes Puts visits before before
  one_pass : {words after : List ℕ} → Passes Puts visits before words → Ran Puts visits words (length visits) after true
      → Passes Puts visits before after

-- A part: a single row needs one, other rows passes until one changes nothing.
pub data PartRan (Puts : ℕ → List ℕ → List ℕ → Bool → Type 0) (visits before after : List ℕ) : Type 0 where
  single : {changed : Bool} → length visits ≡ 1 → Puts (place_of (get_or visits 0 0)) before after changed → PartRan Puts visits before after
  several : {words : List ℕ} → Passes Puts visits before words → Ran Puts visits words (length visits) after false → PartRan Puts visits before after

-- The parts up to a visit.
pub data Settled (Puts : ℕ → List ℕ → List ℕ → Bool → Type 0) (visits before : List ℕ) : ℕ → List ℕ → Type 0 where
  none_settled : Settled Puts visits before 0 before
  part_settled : {start end : ℕ} {words after : List ℕ} → Settled Puts visits before start words → PartEnd visits start end
      → PartRan Puts (take (end - start) (drop start visits)) words after → Settled Puts visits before end after
