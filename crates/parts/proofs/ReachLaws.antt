-- Laws of how far rows ask, and of the marks that are set by it.
-- Assumes nothing.
use mathlib.Core.Path.{◌≡◌, sym, ap, ◌∙◌}
use mathlib.Core.Bool.{true}
use mathlib.Core.List.{List, [], ◌∷◌}
use Prim.Native.Nat.{ℕ, zero, suc, ◌+◌, ◌≤◌, ◌<◌}
use native.Mathlib.Omega.{arith}
use native.Mathlib.Decide.{ℕ_discrete}
use borrow.Author.Count.{below_more}
use borrow.Author.Tests.{leb-true}
use lib.Dec.{leb}
use lib.ListN.{length, get_or, set, length-set}
use lib.Seq.{get_or-set_same, get_or-set_other}
use Rattle.parts.specs.Parts.{place_of, ends_part, Unmarked, Marked, Asks, head_at, Parted}
use Rattle.parts.specs.Reaches.{Lasts, Within, Reaches, RowReaches}
use Rattle.parts.proofs.MarkedParts.{unmarked_place}

-- ---- numbers in an array

-- A number that was put at a place is there, or the place is past the end.
put_least : (l : List ℕ) (i v d : ℕ) → v ≤ d → v ≤ get_or (set l i v) i d
put_least [] i v d h = h
put_least (x ∷ l) zero v d h = omega arith
put_least (x ∷ l) (suc i) v d h = put_least l i v d h

-- ---- the last visits

-- One visit more.
pub lasts_more : {count done head : ℕ} {numbers visits lasts : List ℕ} → done < count → head ≡ head_at numbers visits done
    → Lasts count numbers visits lasts done → Lasts count numbers visits (set lasts head (done + 1)) (done + 1)
lasts_more {count = count} {done = done} {head = head} {numbers = numbers} {visits = visits} {lasts = lasts} h e l = record {
  last = λ j b. elim (ℕ_discrete (head_at numbers visits j) head) [
    | yes q ↦
        let p : done + 1 ≤ get_or (set lasts head (done + 1)) (head_at numbers visits j) count =
        rw q (put_least lasts head (done + 1) count (omega arith)) in
        omega arith
    | no q ↦ rw (get_or-set_other lasts head (head_at numbers visits j) (done + 1) count q) (l.last j (before j b q))
  ];
}
  where
    before : (j : ℕ) → j < done + 1 → (head_at numbers visits j ≡ head → ⊥) → j < done
    before j b q = elim (ℕ_discrete j done) [ yes p ↦ absurd (q (ap (head_at numbers visits) p ∙ sym e)) | no p ↦ omega arith ]

-- ---- how far a row asks

within_up : {by count number reach more : ℕ} {lasts : List ℕ} → reach ≤ more → Within by count lasts number reach → Within by count lasts number more
within_up h w = record { asked = λ o a. let l = w.asked o a in omega arith }

reaches_up : {by count place size reach more : ℕ} {numbers lasts : List ℕ} → reach ≤ more → Reaches by count numbers lasts place size reach
    → Reaches by count numbers lasts place size more
reaches_up h r = record { each = λ k b. within_up h (r.each k b) }

-- ---- the marks

-- The first `done` visits are through: their rows are within `reach`, and those up to a mark within its part.
pub record MarkedTo (by count : ℕ) (numbers lasts before : List ℕ) (done reach : ℕ) (after : List ℕ) : Type 0 where
  pub marked : Marked done before after
  pub reached : (i : ℕ) → i < done → RowReaches by count numbers lasts (get_or before i 0) reach
  pub within : (i e : ℕ) → i ≤ e → e < done → ends_part (get_or after e 0) ≡ true
      → RowReaches by count numbers lasts (get_or before i 0) (e + 1)

-- A visit that is still to come stands as it was.
pub still_unmarked : {by count done reach : ℕ} {numbers lasts before after : List ℕ} → Unmarked count before → done < count
    → MarkedTo by count numbers lasts before done reach after → get_or after done 0 < 32768
still_unmarked {done = done} u h t = let e = t.marked.stays.beyond done (omega arith) in let l = u.below done h in omega arith

-- One visit more, marked only where no row so far reaches beyond it.
pub marked_more : {by count done reach more place : ℕ} {numbers lasts before after : List ℕ} (visit : ℕ) → Unmarked count before
    → count ≤ length before → done < count → reach ≤ more → place ≡ place_of (get_or after done 0) → RowReaches by count numbers lasts place more
    → place_of visit ≡ get_or after done 0 → ends_part visit ≡ leb more (done + 1) → MarkedTo by count numbers lasts before done reach after
    → MarkedTo by count numbers lasts before (done + 1) more (set after done visit)
marked_more {by = by} {count = count} {done = done} {more = more} {numbers = numbers} {lasts = lasts} {before = before} {after = after}
    visit u s h g f r p m t =
    record {
      marked = record {
        places = below_more (λ i. place_of (get_or (set after done visit) i 0) ≡ get_or before i 0) done
            (λ i b. ap place_of (get_or-set_other after done i visit 0 (λ q. omega arith)) ∙ t.marked.places i b)
            (ap place_of here ∙ p ∙ there);
        stays = record {
          sized = length-set after done visit ∙ t.marked.stays.sized;
          beyond = λ k b. get_or-set_other after done k visit 0 (λ q. omega arith) ∙ t.marked.stays.beyond k (omega arith);
        };
      };
      reached = rows;
      within = λ i e b k a. elim (ℕ_discrete e done) [
        | yes q ↦
            let a' = ap (λ (n : ℕ). ends_part (get_or (set after done visit) n 0)) (sym q) ∙ a in
            let l = leb-true more (done + 1) (sym m ∙ sym (ap ends_part here) ∙ a') in
            reaches_up (omega arith) (rows i (omega arith))
        | no q ↦ t.within i e b (omega arith) (sym (ap ends_part (get_or-set_other after done e visit 0 q)) ∙ a)
      ];
    }
  where
    here : get_or (set after done visit) done 0 ≡ visit
    here = let l = t.marked.stays.sized in get_or-set_same after done visit 0 (omega arith)

    there : get_or after done 0 ≡ get_or before done 0
    there = t.marked.stays.beyond done (omega arith)

    rows : (i : ℕ) → i < done + 1 → RowReaches by count numbers lasts (get_or before i 0) more
    rows = below_more (λ i. RowReaches by count numbers lasts (get_or before i 0) more) done (λ i b. reaches_up g (t.reached i b))
        (rw (f ∙ ap place_of there ∙ unmarked_place (get_or before done 0) (u.below done h)) at r)

-- A row does not ask for a head that is visited beyond its reach.
not_asked : {by count reach j : ℕ} (numbers lasts : List ℕ) (place head : ℕ) → RowReaches by count numbers lasts place reach
    → j + 1 ≤ get_or lasts head count → reach ≤ j → Asks by numbers place head → ⊥
not_asked numbers lasts place head r l h a = let b = (r.each a.at a.within).asked head a.asked in omega arith

-- With all visits marked they are parted: a row up to a mark asks for heads that are visited for the last time up to there.
pub marked_parted : {by count reach : ℕ} (numbers : List ℕ) {lasts before after : List ℕ} → Unmarked count before → Lasts count numbers before lasts count
    → MarkedTo by count numbers lasts before count reach after → Parted by count numbers after
unfolding head_at
marked_parted {by = by} {count = count} numbers {lasts = lasts} {before = before} {after = after} u l t = record {
  apart = λ i e j h k m a.
      not_asked {count = count} {reach = e + 1} {j = j} numbers lasts (place_of (get_or after i 0)) (head_at numbers after j)
      (rw (t.marked.places i (omega arith)) (t.within i e h (omega arith) a))
      (rw (t.marked.places j m, ← unmarked_place (get_or before j 0) (u.below j m)) (l.last j m)) (omega arith);
}
