-- Laws of visits and of the parts that they are marked with.
-- Assumes nothing.
use mathlib.Core.Path.{◌≡◌, ap, ◌∙◌}
use mathlib.Core.Bool.{true, false}
use mathlib.Core.List.{List}
use Prim.Native.Nat.{ℕ, ◌+◌, ◌-◌, ◌≤◌, ◌<◌}
use native.Mathlib.Omega.{arith}
use lib.ListN.{length, get_or, take, drop, length-drop}
use lib.Seq.{get_or-take, get_or-drop, length-take-le}
use Rattle.std.specs.List.{AllWithin, HoldsAt}
use Rattle.papers.proofs.Lists.{get_or_map_lt}
use Rattle.parts.specs.Parts.{place_of, ends_part, places_of, head_at, Parted, PartEnd, Apart}

-- ---- visits without marks

pub unmarked_place : (visit : ℕ) → visit < 32768 → place_of visit ≡ visit
unfolding place_of
unmarked_place visit h = omega arith

-- ---- the place of a visit among several

pub place_at : (visits : List ℕ) (i : ℕ) → i < length visits → get_or (places_of visits) i 0 ≡ place_of (get_or visits i 0)
unfolding places_of
place_at visits i h = get_or_map_lt place_of visits i 0 0 h

-- ---- where a part ends

-- A visit with a mark, and one without.
abbrev pub Marks : ℕ → Type 0
Marks visit = ends_part visit ≡ true

abbrev pub Plain : ℕ → Type 0
Plain visit = ends_part visit ≡ false

module _ (visits : List ℕ) (start : ℕ) where
  abbrev from_start : List ℕ
  from_start = drop start visits

  -- None before one of the visits from `start` on has a mark.
  plain_before : (n i : ℕ) → AllWithin Plain from_start 0 n → start ≤ i → i < start + n → Plain (get_or visits i 0)
  plain_before n i w h k =
      let e : start + (i - start) ≡ i = omega arith in
      let p = rw get_or-drop at (w (i - start) 0 (omega arith) (omega arith)) in
      rw e at p

  -- That one has: the part ends with it.
  pub ended_at : (last : ℕ) → last < length from_start → HoldsAt Marks from_start last → AllWithin Plain from_start 0 last
      → PartEnd visits start (start + last + 1)
  ended_at last within marked w =
      let d = length-drop start visits in
      let e : start + last + 1 - 1 ≡ start + last = omega arith in
      record {
        later = omega arith;
        within = omega arith;
        marked = λ h. rw (e, ← get_or-drop start visits last 0) (marked 0);
        first = λ i h k. plain_before last i w h (omega arith);
      }

  -- No visit has: the part ends with the last.
  pub ended_last : start < length visits → AllWithin Plain from_start 0 (length from_start) → PartEnd visits start (length visits)
  ended_last later w =
      let d = length-drop start visits in
      record {
        later = later;
        within = omega arith;
        marked = λ h. absurd (omega arith);
        first = λ i h k. plain_before (length from_start) i w h (omega arith);
      }

pub apart_none : (by count : ℕ) (numbers visits : List ℕ) → Apart by count numbers visits 0
apart_none by count numbers visits = record { apart = λ i j h k m a. absurd (omega arith) }

pub apart_end : (by : ℕ) (numbers visits : List ℕ) (start end : ℕ) → Parted by (length visits) numbers visits → PartEnd visits start end
    → Apart by (length visits) numbers visits end
apart_end by numbers visits start end p e = record {
  apart = λ i j h k m a.
      let l = e.later in
      p.apart i (end - 1) j (omega arith) (omega arith) m (e.marked (omega arith)) a;
}

-- ---- the visits of a part

module _ (visits : List ℕ) (start end : ℕ) (within : end ≤ length visits) where
  abbrev part : List ℕ
  part = take (end - start) (drop start visits)

  pub part_count : length part ≡ end - start
  part_count = let l = length-drop start visits in length-take-le (end - start) (drop start visits) (omega arith)

  pub part_visit : (i : ℕ) → i < end - start → get_or part i 0 ≡ get_or visits (start + i) 0
  part_visit i k = get_or-take (end - start) (drop start visits) i 0 k ∙ get_or-drop start visits i 0

  pub part_head : (rows : List ℕ) (i : ℕ) → i < end - start → head_at rows part i ≡ head_at rows visits (start + i)
  unfolding head_at
  part_head rows i k = ap (λ (visit : ℕ). get_or rows (place_of visit) 0) (part_visit i k)
