-- The entries at the visited places: each is one of a judged literal, and each judged literal has one; those of a part.
-- Assumes nothing.
use mathlib.Core.Path.{◌≡◌, sym, ap, ◌∙◌}
use mathlib.Core.Bool.{Bool}
use mathlib.Core.List.{List}
use Prim.Native.Nat.{ℕ, ◌+◌, ◌-◌, ◌≤◌, ◌<◌}
use native.Mathlib.Omega.{arith}
use lib.ListN.{length, get_or, take, drop}
use Rattle.literals.specs.Numbering.{judged}
use Rattle.papers.specs.Program.{Program}
use Rattle.parts.specs.Parts.{place_of, head_at, Parted}
use Rattle.parts.proofs.MarkedParts.{place_at, part_count, part_visit}
use Rattle.rows.specs.Rows.{entry_row, StandsAt}
use Rattle.rows.proofs.RowLaws.{entry_rows_count, entry_row_at}
use Rattle.rows.proofs.StandLaws.{stands_first}
use Rattle.closing.specs.FalseWords.{EntryStands, EntriesVisited, EntriesStand, Dropped}

-- What a visit is of is judged.
pub visit_judged : {p : Program} {rows visits : List ℕ} → EntriesVisited p rows visits → (i : ℕ) → i < length visits
    → head_at rows visits i < judged p.atoms
unfolding head_at
visit_judged s i h = (s.at i h).within

-- Its entry is dropped by its place.
pub visit_dropped : {p : Program} (rows visits : List ℕ) (i : ℕ) {place : ℕ} {truth backing before after : List ℕ} {changed : Bool}
    → place ≡ place_of (get_or visits i 0) → Dropped p (get_or rows place 0) truth backing before after changed
    → Dropped p (head_at rows visits i) truth backing before after changed
unfolding head_at
visit_dropped rows visits i e d = rw (← e) d

module _ {p : Program} {rows visits : List ℕ} (s : EntriesStand p rows visits) where
  pub visits_judged : length visits ≡ judged p.atoms
  visits_judged = s.stand.sized ∙ entry_rows_count p

  -- The entry of o stands at its start.
  stands : (o : ℕ) → o < judged p.atoms → StandsAt (entry_row p o) rows (get_or s.stand.starts o 0)
  stands o h = rw (entry_row_at p o h) at (s.stand.each o (omega (arith, entry_rows_count p)))

  first : (o : ℕ) → o < judged p.atoms → get_or rows (get_or s.stand.starts o 0) 0 ≡ o
  unfolding entry_row
  first o h = stands_first (stands o h)

  entry_visited : (i : ℕ) → i < length visits → EntryStands p rows (place_of (get_or visits i 0))
  entry_visited i h =
      let n = entry_rows_count p in
      let z = s.stand.sized in
      let m = s.stand.visited.each i (omega arith) in
      let o = s.stand.visited.row_of i in
      let k : o < judged p.atoms = let b = m.row_below in omega arith in
      let there : place_of (get_or visits i 0) ≡ get_or s.stand.starts o 0 = sym (place_at visits i h) ∙ m.meets in
      let e : get_or rows (place_of (get_or visits i 0)) 0 ≡ o = ap (λ (place : ℕ). get_or rows place 0) there ∙ first o k in
      record {
        valid = s.valid;
        within = rw e k;
        stands = rw (e, there) (stands o k);
      }

  pub entries_visited : EntriesVisited p rows visits
  entries_visited = record { valid = s.valid; at = entry_visited }

  pub entries_parted : Parted 1 (length visits) rows visits
  entries_parted = rw s.stand.sized s.stand.parted

  pub objective_every : (o : ℕ) → o < judged p.atoms → (i : ℕ) × ((i < length visits) × (head_at rows visits i ≡ o))
  unfolding head_at
  objective_every o h =
      let n = entry_rows_count p in
      let z = s.stand.sized in
      let m = s.stand.visited.every o (omega arith) in
      let i = s.stand.visited.visit_of o in
      let k : i < length visits = let b = m.visit_below in omega arith in
      (i, (k, ap (λ (place : ℕ). get_or rows place 0) (sym (place_at visits i k) ∙ m.meets) ∙ first o h))

-- ---- those of a part

pub part_entries : {p : Program} {rows visits : List ℕ} (start end : ℕ) → end ≤ length visits → EntriesVisited p rows visits
    → EntriesVisited p rows (take (end - start) (drop start visits))
part_entries {p} {rows} {visits} start end h s = let c = part_count visits start end h in record {
  valid = s.valid;
  at = λ i k. rw (part_visit visits start end h i (omega arith)) (s.at (start + i) (omega arith));
}
