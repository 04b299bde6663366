-- Falsity part by part: an entry depends on a set through what it asks for alone, so what is backed stays so while later parts are closed.
-- Assumes nothing.
use mathlib.Core.Path.{◌≡◌, refl, sym, ap, ◌∙◌}
use mathlib.Core.Bool.{Bool, true, false, cond}
use mathlib.Core.List.{List, [], ◌∷◌, ◌++◌}
use Prim.Native.Nat.{ℕ, suc, ◌+◌, ◌-◌, ◌*◌, ◌%◌, ◌≤◌, ◌<◌}
use native.Mathlib.Decide.{dec_lt}
use native.Mathlib.Omega.{arith}
use borrow.Author.Tests.{eqb-true}
use lib.Dec.{T}
use lib.ListN.{length, get_or, take, drop, length-append, get_or-append}
use lib.Seq.{get_or-append-add}
use Rattle.literals.specs.Numbering.{objective_number, default_negated, judged}
use Rattle.literals.specs.BodyLiterals.{body_literal}
use Rattle.literals.proofs.BodyLaws.{body_cases}
use Rattle.papers.specs.Program.{Program}
use Rattle.dual.specs.Table.{dual}
use Rattle.parts.specs.Parts.{place_of, Asks, head_at, PartEnd, Apart}
use Rattle.parts.proofs.MarkedParts.{part_count, part_head}
use Rattle.rows.specs.Rows.{clauses_row, clauses_of, entry_row}
use Rattle.rows.proofs.StandLaws.{stands_first, stands_after}
use Rattle.papers.specs.Tests.{◌or◌}
use Rattle.model.specs.Sets.{Set, has}
use Rattle.model.specs.LeastSet.{literal_holds}
use Rattle.model.specs.Falsity.{some_holds, entry_holds}
use Rattle.papers.proofs.TestLaws.{is_false}
use Rattle.model.proofs.SetLaws.{has_within}
use Rattle.lanes.specs.Lanes.{lane_bit, lane}
use Rattle.lanes.proofs.LaneLaws.{sized as lane-sized, has_lane}
use Rattle.closing.specs.FalseWords.{EntryStands, EntriesVisited, PartDropped}
use Rattle.closing.proofs.EntryWords.{clauses_hold, entry_clauses}
use Rattle.closing.proofs.DroppedLaws.{narrowed_none, narrowed_then}

-- ---- what an entry depends on

-- Two sets have the same of what the literals not(x) of a row speak of.
record Agree (row : List ℕ) (set set' : Set) : Type 0 where
  pub at : (i x : ℕ) → i < length row → get_or row i 0 ≡ 2 * x + 1 → has set x ≡ has set' x

module _ {set set' : Set} where
  agree_more : {l : ℕ} {row : List ℕ} → Agree (l ∷ row) set set' → Agree row set set'
  agree_more a = record { at = λ i x h e. a.at (suc i) x (omega arith) e }

  agree_front : (row rest : List ℕ) → Agree (row ++ rest) set set' → Agree row set set'
  agree_front row rest a = let l = length-append row rest in record {
    at = λ i x h e. a.at i x (omega arith) (get_or-append row rest 0 i h ∙ e);
  }

  agree_rest : (row rest : List ℕ) → Agree (row ++ rest) set set' → Agree rest set set'
  agree_rest row rest a = let l = length-append row rest in record {
    at = λ i x h e. a.at (length row + i) x (omega arith) (get_or-append-add row rest i 0 ∙ e);
  }

  module _ (trues : Set) where
    literal_same : {l : ℕ} {more : List ℕ} → Agree (l ∷ more) set set'
        → literal_holds false trues set (body_literal l) ≡ literal_holds false trues set' (body_literal l)
    unfolding literal_holds
    literal_same {l} {more} =
        body_cases (λ l b. Agree (l ∷ more) set set' → literal_holds false trues set b ≡ literal_holds false trues set' b)
        (λ a. refl)
        (λ l ne a. go l a (default_negated l) refl)
        l where
          go : (l : ℕ) → Agree (l ∷ more) set set' → (b : Bool) → default_negated l ≡ b
              → cond b (has set (objective_number l)) (has trues (objective_number l)) ≡ cond b (has set' (objective_number l)) (has trues (objective_number l))
          go l a true e = let q = eqb-true (l % 2) 1 e in a.at 0 (objective_number l) (omega arith) (omega arith)
          go l a false e = refl

    some_same : (clause : List ℕ) → Agree clause set set' → some_holds trues set clause ≡ some_holds trues set' clause
    unfolding some_holds
    some_same [] a = refl
    some_same (l ∷ more) a = rw (literal_same a, some_same more (agree_more a))

    clauses_same : (clauses : List (List ℕ)) → Agree (clauses_row clauses) set set' → clauses_hold trues set clauses ≡ clauses_hold trues set' clauses
    unfolding clauses_row clauses_hold
    clauses_same [] a = refl
    clauses_same (clause ∷ more) a =
        let rest = agree_more a in
        rw (some_same clause (agree_front clause (clauses_row more) rest), clauses_same more (agree_rest clause (clauses_row more) rest))

-- Sets that have the same of what an entry asks for back its literal alike.
pub entry_local : {p : Program} {rows : List ℕ} {place : ℕ} (trues set set' : Set) → EntryStands p rows place
    → ((x : ℕ) → Asks 1 rows place x → has set x ≡ has set' x)
    → entry_holds (dual p) trues set (dual p) (get_or rows place 0) ≡ entry_holds (dual p) trues set' (dual p) (get_or rows place 0)
unfolding entry_row
entry_local {p} {rows} {place} trues set set' s same =
    let o = get_or rows place 0 in
    entry_clauses p trues set o s.within ∙ clauses_same trues (clauses_of p o) agree ∙ sym (entry_clauses p trues set' o s.within) where
      agree : Agree (clauses_row (clauses_of p (get_or rows place 0))) set set'
      agree = record {
        at = λ i x h e. same x (record {
          at = i;
          within = let z = stands_first (stands_after s.stands) in omega arith;
          asked =
              let q : place + 2 + i ≡ place + 1 + 1 + i = omega arith in
              ap (λ (k : ℕ). get_or rows k 0) q ∙ (stands_after (stands_after s.stands)).at i h ∙ e;
        });
      }

-- ---- part by part

-- Words that are the same at o, in a lane.
lane_at : (n l o : ℕ) (words after : List ℕ) → get_or after o 0 ≡ get_or words o 0 → has (lane n l words) o ≡ has (lane n l after) o
lane_at n l o words after e =
    elim (dec_lt o n) [
      | yes h ↦ has_lane n l o words h ∙ ap (lane_bit l) (sym e) ∙ sym (has_lane n l o after h)
      | no h ↦ out words h ∙ sym (out after h)
    ] where
      out : (some : List ℕ) → (o < n → ⊥) → has (lane n l some) o ≡ false
      out some h = is_false (has (lane n l some) o) (λ t.
          let m = has_within (lane n l some) o t in let z = lane-sized n l some in h (omega arith))

pub parts_none : {visited : ℕ → ℕ} {p : Program} {truth backing before : List ℕ} → length before ≡ 513
    → PartDropped visited 0 p truth backing before before
parts_none e = record { narrowed = narrowed_none e; backed = record { at = λ l i h k x. absurd (omega arith) } }

-- One more part is closed: no entry before it asks for what left with it.
module _ {p : Program} {rows visits truth backing before falses after : List ℕ} {start end : ℕ}
    (s : EntriesVisited p rows visits) (e : PartEnd visits start end) (a : Apart 1 (length visits) rows visits start)
    (w : PartDropped (head_at rows visits) start p truth backing before falses)
    (d : PartDropped (head_at rows (take (end - start) (drop start visits))) (length (take (end - start) (drop start visits)))
    p truth backing falses after) where
  abbrev n : ℕ
  n = judged p.atoms

  count : length (take (end - start) (drop start visits)) ≡ end - start
  count = part_count visits start end e.within

  head : (j : ℕ) → j < end - start → head_at rows (take (end - start) (drop start visits)) j ≡ head_at rows visits (start + j)
  head = part_head visits start end e.within rows

  -- What an entry before it asks for stayed.
  stayed : (i : ℕ) → i < start → (x : ℕ) → Asks 1 rows (place_of (get_or visits i 0)) x → get_or after x 0 ≡ get_or falses x 0
  stayed i h x asks = d.narrowed.others x (λ j k z.
      let c = count in
      let b = e.within in
      a.apart i (start + j) h (omega arith) (omega arith) (rw (← head j (omega arith), z) asks))

  backed_before : (l i : ℕ) → l < 64 → i < start → T (lane_bit l (get_or after (head_at rows visits i) 0))
      → T (lane_bit l (get_or backing (head_at rows visits i) 0) or entry_holds (dual p) (lane n l truth) (lane n l after) (dual p) (head_at rows visits i))
  unfolding head_at
  backed_before l i h k x =
      let c = e.later in
      let b = e.within in
      rw (← entry_local (lane n l truth) (lane n l falses) (lane n l after) (s.at i (omega arith)) (λ y asks. lane_at n l y falses after (stayed i k y asks)))
      (w.backed.at l i h k (d.narrowed.less l (head_at rows visits i) x))

  backed_here : (l i : ℕ) → l < 64 → start ≤ i → i < end → T (lane_bit l (get_or after (head_at rows visits i) 0))
      → T (lane_bit l (get_or backing (head_at rows visits i) 0) or entry_holds (dual p) (lane n l truth) (lane n l after) (dual p) (head_at rows visits i))
  backed_here l i h k m x =
      let c = count in
      let z : start + (i - start) ≡ i = omega arith in
      let q : head_at rows (take (end - start) (drop start visits)) (i - start) ≡ head_at rows visits i =
      head (i - start) (omega arith) ∙ ap (head_at rows visits) z in
      rw q at (d.backed.at l (i - start) h (omega arith) (rw q x))

  pub parts_more : PartDropped (head_at rows visits) end p truth backing before after
  parts_more = record {
    narrowed =
        let c = count in
        let t = e.later in
        narrowed_then w.narrowed d.narrowed (omega arith) (λ j h. (start + j, (omega arith, sym (head j (omega arith)))));
    backed = record {
      at = λ l i h k x.
          elim (dec_lt i start) [
            | yes m ↦ backed_before l i h m x
            | no m ↦ backed_here l i h (omega arith) k x
          ];
    };
  }
