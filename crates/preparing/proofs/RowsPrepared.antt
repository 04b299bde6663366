-- Rows that are decoded, ordered and marked stand, and are all visited, in parts.
-- Assumes nothing.
use mathlib.Core.Path.{◌≡◌, ap, ◌∙◌}
use mathlib.Core.List.{List}
use Prim.Native.Nat.{ℕ, ◌≤◌, ◌<◌}
use native.Mathlib.Omega.{arith}
use lib.ListN.{length, get_or, take}
use lib.Seq.{length-take-le, get_or-take}
use Rattle.dual.specs.Bytes.{filled}
use Rattle.arrays.specs.Staying.{StaysFrom}
use Rattle.rows.specs.Visits.{Meets, Visits}
use Rattle.parts.specs.Parts.{place_of, places_of, Unmarked, Marked, Asks, head_at, Parted}
use Rattle.parts.proofs.MarkedParts.{place_at}
use Rattle.rows.specs.Rows.{joined, Starts, Prepared}
use Rattle.rows.proofs.RowLaws.{row_within, rows_stand}

-- Places are too small to be taken for marked ones.
pub visits_unmarked : (rows : List (List ℕ)) (zeros starts visits : List ℕ) (count : ℕ) → count ≡ length rows → length (joined rows) < 32768
    → Starts rows zeros starts → Visits count starts visits → Unmarked count visits
visits_unmarked rows zeros starts visits count e room s v = record {
  below = λ i h.
      let m = v.each i h in
      let row = v.row_of i in
      let k : row < length rows = let b = m.row_below in omega arith in
      let w = row_within rows row k in
      let q = m.meets ∙ s.at row k in
      omega arith;
}

module _ (n : ℕ) (visits : List ℕ) (room : n ≤ length visits) where
  counted : length (take n visits) ≡ n
  counted = length-take-le n visits room

  place_taken : (i : ℕ) → i < n → place_of (get_or (take n visits) i 0) ≡ place_of (get_or visits i 0)
  place_taken i h = ap place_of (get_or-take n visits i 0 h)

  -- The visits are those that are counted.
  visits_taken : (starts ordered : List ℕ) → Marked n ordered visits → Visits n starts ordered → Visits n starts (places_of (take n visits))
  visits_taken starts ordered k v = record {
    row_of = v.row_of;
    visit_of = v.visit_of;
    each = λ visit h. met (v.row_of visit) visit (v.each visit h);
    every = λ row h. met row (v.visit_of row) (v.every row h);
  } where
    met : (row visit : ℕ) → Meets n starts ordered row visit → Meets n starts (places_of (take n visits)) row visit
    met row visit m = record {
      row_below = m.row_below;
      visit_below = m.visit_below;
      meets =
          place_at (take n visits) visit (let c = counted in let b = m.visit_below in omega arith)
          ∙ place_taken visit m.visit_below
          ∙ k.places visit m.visit_below
          ∙ m.meets;
    }

  parted_taken : (by : ℕ) (numbers : List ℕ) → Parted by n numbers visits → Parted by n numbers (take n visits)
  unfolding head_at
  parted_taken by numbers p = record {
    apart = λ i e j h k m t a.
        let asks : Asks by numbers (place_of (get_or visits i 0)) (get_or numbers (place_of (get_or visits j 0)) 0) =
        rw (place_taken i (omega arith), place_taken j m) at a in
        p.apart i e j h k m (rw (get_or-take n visits e 0 (omega arith)) at t) asks;
  }

module _ (by : ℕ) (rows : List (List ℕ)) (before after visited ordered visits : List ℕ)
    (room : length (joined rows) ≤ length before) (few : length rows ≤ length visited) where
  pub rows_prepared : (zeros starts : List ℕ) → after ≡ filled (joined rows) before → Starts rows zeros starts
      → (count : ℕ) → count ≡ length rows → Visits count starts ordered → StaysFrom count visited ordered
      → Parted by count after visits → Marked count ordered visits → Prepared by rows before after visited visits
  rows_prepared zeros starts w s count e v t p k =
      let marked : Marked (length rows) ordered visits = rw e at k in
      let ordering : StaysFrom (length rows) visited ordered = rw e at t in
      let long : length rows ≤ length visits = let a = marked.stays.sized in let b = ordering.sized in omega arith in
      record {
        written = w;
        stand = record {
          starts = starts;
          sized = counted (length rows) visits long;
          each = λ k h.
              let there = rows_stand rows before zeros starts room s k h in
              rw w there;
          visited = visits_taken (length rows) visits long starts ordered marked (rw e at v);
          parted = parted_taken (length rows) visits long by after (rw e at p);
        };
        stays = record {
          sized = marked.stays.sized ∙ ordering.sized;
          beyond = λ k h. marked.stays.beyond k h ∙ ordering.beyond k h;
        };
      }
