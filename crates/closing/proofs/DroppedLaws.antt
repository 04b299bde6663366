-- Dropping what is not backed, one objective literal after the other, in every lane at once: an entry, a pass, passes until one changes nothing.
-- Assumes nothing.
use mathlib.Core.Path.{◌≡◌, refl, sym, ap, subst, ◌∙◌}
use mathlib.Core.Bool.{Bool, true, false, not, cond, true≢false}
use mathlib.Core.List.{List, []}
use Prim.Native.Nat.{ℕ, ◌+◌, ◌≤◌, ◌<◌}
use native.Mathlib.Omega.{arith}
use native.Mathlib.Decide.{ℕ_discrete}
use borrow.Author.Tests.{le-ltb, eqb-true, eqb-false, not-true, not-false}
use lib.Dec.{T, eqb}
use lib.ListN.{length, get_or, set, length-set}
use lib.Seq.{get_or-set_same, get_or-set_other, set-get_or}
use lib.Bits.{bit_and, bit_or, and_le_l}
use Rattle.literals.specs.Numbering.{explicitly_negated, judged}
use Rattle.papers.specs.Program.{Program}
use Rattle.papers.specs.Valid.{Valid}
use Rattle.dual.specs.Table.{Field, dual}
use Rattle.papers.specs.Tests.{◌and◌, ◌or◌}
use Rattle.model.specs.Sets.{Set, has}
use Rattle.model.specs.Scenarios.{digit_of, false_abducible}
use Rattle.model.specs.Model.{conjugate_in}
use Rattle.model.specs.Falsity.{entry_holds, backed}
use Rattle.lanes.specs.Lanes.{lane_bit, lane}
use Rattle.closing.specs.FalseWords.{EntryStands, GivenBacked, Dropped, Narrowed, BackedTo, DroppedTo, PartDropped}
use Rattle.lanes.specs.Words.{total}
use Rattle.closing.specs.Passes.{Passing}
use Rattle.papers.proofs.TestLaws.{both, left, right, or_mono, is_true, true_or, false_or, false_and}
use Rattle.model.proofs.SetLaws.{Sub, has_within, set_ext}
use Rattle.model.proofs.FalsityLaws.{backed_more}
use Rattle.lanes.proofs.LaneLaws.{lane_and, lane_or, sized as lane-sized, has_lane, total_set}

-- ---- a larger set backs more

-- In a program of no atoms an entry alone backs.
abbrev bare : Program
bare = record { atoms = 0; abducibles = []; rules = []; integrity = [] }

bare_false : (o : ℕ) → false_abducible bare 0 o ≡ false
unfolding false_abducible digit_of
bare_false o = go (explicitly_negated o) where
  go : (b : Bool) → eqb 3 (cond b 1 2) ≡ false
  go true = refl
  go false = refl

bare_conjugate : (trues : Set) (o : ℕ) → conjugate_in 0 trues o ≡ false
unfolding conjugate_in
bare_conjugate trues o = rw (le-ltb o 0 (omega arith)) (false_and _)

bare_backed : (fields : List Field) (trues set : Set) (o : ℕ) → backed bare 0 fields trues set o ≡ entry_holds fields trues set fields o
unfolding backed
bare_backed fields trues set o =
    let entered = entry_holds fields trues set fields o in
    rw (bare_conjugate trues o, bare_false o) (false_or (false or entered) ∙ false_or entered)

entry_more : (fields : List Field) (trues : Set) {set set' : Set} → Sub set set' → (o : ℕ)
    → T (entry_holds fields trues set fields o) → T (entry_holds fields trues set' fields o)
entry_more fields trues {set} {set'} h o t =
    rw (bare_backed fields trues set' o) at (backed_more bare 0 fields trues h o (rw (bare_backed fields trues set o) t))

-- ---- one step after the other

module _ {p : Program} {truth backing : List ℕ} where
  pub narrowed_none : {visited : ℕ → ℕ} {upto : ℕ} {before : List ℕ} → length before ≡ 513 → Narrowed visited upto p truth backing before before
  narrowed_none e = record {
    long = e;
    beyond = record { at = λ o h. refl };
    less = λ l o x. x;
    others = λ o h. refl;
    keeps = λ l h t b i. i;
  }

  -- What the second step visits is among all that are visited.
  pub narrowed_then : {visited second : ℕ → ℕ} {upto more all : ℕ} {before between after : List ℕ}
      → Narrowed visited upto p truth backing before between → Narrowed second more p truth backing between after
      → upto ≤ all → ((j : ℕ) → j < more → (i : ℕ) × ((i < all) × (visited i ≡ second j)))
      → Narrowed visited all p truth backing before after
  narrowed_then a b u among = record {
    long = b.long;
    beyond = record { at = λ o h. b.beyond.at o h ∙ a.beyond.at o h };
    less = λ l o x. a.less l o (b.less l o x);
    others = λ o ne.
        b.others o (λ j h e. let i = among j h in ne i.0 i.1.0 (i.1.1 ∙ e)) ∙ a.others o (λ i h. ne i (omega arith));
    keeps = λ l h t g k. b.keeps l h t g (a.keeps l h t g k);
  }

-- ---- one entry

-- None of its lanes left: the words stay.
dropped_still : {p : Program} {o : ℕ} {truth backing before after : List ℕ} {moved : Bool} → Dropped p o truth backing before after moved
    → moved ≡ false → after ≡ before
dropped_still {o = o} {backing = backing} {before = before} one t =
    one.is
    ∙ ap (λ (v : ℕ). set before o v)
    (eqb-true (bit_and (get_or before o 0) (bit_or (get_or backing o 0) one.word)) (get_or before o 0) (not-false _ (sym one.told ∙ t)))
    ∙ set-get_or before o 0

-- Asking only the lanes that have o and in which nothing else backs it leaves the same lanes.
asked_all : (a b e : Bool) → (a and (b or ((a and not b) and e))) ≡ (a and (b or e))
unfolding ◌and◌ ◌or◌
asked_all false b e = refl
asked_all true true e = refl
asked_all true false e = refl

module _ {p : Program} {o : ℕ} {truth backing before after : List ℕ} {moved : Bool}
    (valid : Valid p) (within : o < judged p.atoms) (long : length before ≡ 513) (one : Dropped p o truth backing before after moved) where
  abbrev n : ℕ
  n = judged p.atoms

  abbrev new : ℕ
  new = bit_and (get_or before o 0) (bit_or (get_or backing o 0) one.word)

  inside : o < length before
  inside = let v = valid.few_atoms in omega arith

  here : get_or after o 0 ≡ new
  here = ap (λ (w : List ℕ). get_or w o 0) one.is ∙ get_or-set_same before o new 0 inside

  other : (q : ℕ) → (q ≡ o → ⊥) → get_or after q 0 ≡ get_or before q 0
  other q ne = ap (λ (w : List ℕ). get_or w q 0) one.is ∙ get_or-set_other before o q new 0 ne

  new_lane : (l : ℕ) → l < 64
      → lane_bit l new
      ≡ (lane_bit l (get_or before o 0)
      and (lane_bit l (get_or backing o 0) or entry_holds (dual p) (lane n l truth) (lane n l before) (dual p) o))
  new_lane l h =
      let a = lane_bit l (get_or before o 0) in
      let b = lane_bit l (get_or backing o 0) in
      let e = entry_holds (dual p) (lane n l truth) (lane n l before) (dual p) o in
      lane_and l (get_or before o 0) (bit_or (get_or backing o 0) one.word)
      ∙ ap (λ (x : Bool). a and x)
      (lane_or l (get_or backing o 0) one.word
      ∙ ap (λ (x : Bool). b or x) (one.holds.at l h ∙ ap (λ (x : Bool). x and e) (one.asked l h)))
      ∙ asked_all a b e

  less : (l q : ℕ) → T (lane_bit l (get_or after q 0)) → T (lane_bit l (get_or before q 0))
  less l q x =
      elim (ℕ_discrete q o) [
        | yes e ↦ rw e (left _ _ (rw (lane_and l (get_or before o 0) (bit_or (get_or backing o 0) one.word)) at (rw here at (rw e at x))))
        | no ne ↦ rw (other q ne) at x
      ]

  keeps : (l : ℕ) → l < 64 → (t : Set) → GivenBacked p (lane n l backing) (lane n l truth) t
      → ((q : ℕ) → T (has t q) → T (lane_bit l (get_or before q 0))) → (q : ℕ) → T (has t q) → T (lane_bit l (get_or after q 0))
  keeps l h t b kept q y =
      elim (ℕ_discrete q o) [
        | yes e ↦ rw (e, here, new_lane l h) (both _ _ (kept o (rw e at y)) (backs (rw e at y)))
        | no ne ↦ rw (other q ne) (kept q y)
      ] where
        sub : Sub t (lane n l before)
        sub = record {
          at = λ r x. let m = has_within t r x in let z = b.sized in let k : r < n = omega arith in rw (has_lane n l r before k) (kept r x);
        }

        backs : T (has t o) → T (lane_bit l (get_or backing o 0) or entry_holds (dual p) (lane n l truth) (lane n l before) (dual p) o)
        backs x =
            or_mono _ _ _ _
            (λ (g : T (has (lane n l backing) o)). rw (has_lane n l o backing within) at g)
            (λ (g : T (entry_holds (dual p) (lane n l truth) t (dual p) o)). entry_more (dual p) (lane n l truth) sub o g)
            (b.each o x)

  -- Some lanes lost it: the sum has fallen.
  dropped_fewer : moved ≡ true → total after < total before
  dropped_fewer t =
      let ne = eqb-false new (get_or before o 0) (not-true _ (sym one.told ∙ t)) in
      let a = and_le_l (get_or before o 0) (bit_or (get_or backing o 0) one.word) in
      let s = total_set before o new inside in
      let f : new < get_or before o 0 = omega (arith, ne) in
      rw one.is (omega arith)

  pub dropped_narrows : {visited : ℕ → ℕ} → visited 0 ≡ o → Narrowed visited 1 p truth backing before after
  dropped_narrows {visited} e = record {
    long = ap length one.is ∙ length-set before o new ∙ long;
    beyond = record { at = λ q h. other q (λ z. absurd (omega arith)) };
    less = less;
    others = λ q ne. other q (λ z. ne 0 (omega arith) (e ∙ sym z));
    keeps = keeps;
  }

  -- In a lane that o did not leave nothing changed, so it is still backed there.
  left_backed : (l : ℕ) → l < 64 → T (lane_bit l (get_or after o 0))
      → T (lane_bit l (get_or backing o 0) or entry_holds (dual p) (lane n l truth) (lane n l after) (dual p) o)
  left_backed l h x =
      let kept : T (lane_bit l (get_or before o 0)
      and (lane_bit l (get_or backing o 0) or entry_holds (dual p) (lane n l truth) (lane n l before) (dual p) o)) =
      rw (← new_lane l h, ← here) x in
      rw stays (right _ _ kept) where
        stays : lane n l after ≡ lane n l before
        stays = set_ext n (lane n l after) (lane n l before) (lane-sized n l after) (lane-sized n l before) (λ q k.
            has_lane n l q after k
            ∙ elim (ℕ_discrete q o) [
              | yes e ↦ rw e (is_true _ x ∙ sym (is_true _ (less l o x)))
              | no ne ↦ ap (lane_bit l) (other q ne)
            ]
            ∙ sym (has_lane n l q before k))

  -- A single entry needs one pass.
  pub dropped_one : {visited : ℕ → ℕ} → visited 0 ≡ o → PartDropped visited 1 p truth backing before after
  dropped_one {visited} e = record {
    narrowed = dropped_narrows e;
    backed = record {
      at = λ l i h k x.
          let z : i ≡ 0 = omega arith in
          let q : visited i ≡ o = ap visited z ∙ e in
          rw q (left_backed l h (rw q at x));
    };
  }

-- ---- one pass

module _ (p : Program) (truth backing before : List ℕ) (visited : ℕ → ℕ) where
  pub dropped_none : length before ≡ 513 → DroppedTo visited 0 p truth backing before before false
  dropped_none e = record {
    narrowed = narrowed_none e;
    same = λ q. refl;
    backed = λ q. record { at = λ l i h k x. absurd (omega arith) };
    fewer = λ q. absurd (true≢false (sym q));
  }

  module _ (i : ℕ) (after : List ℕ) (changed : Bool) (d : DroppedTo visited i p truth backing before after changed)
      (valid : Valid p) (within : visited i < judged p.atoms) (more : List ℕ) (moved : Bool)
      (one : Dropped p (visited i) truth backing after more moved) where
    narrows : Narrowed visited (i + 1) p truth backing before more
    narrows =
        narrowed_then d.narrowed (dropped_narrows valid within d.narrowed.long one {visited = λ j. visited i} refl) (omega arith)
        (λ j h. (i, (omega arith, refl)))

    at_most : total after ≤ total before
    at_most = go changed refl where
      go : (b : Bool) → changed ≡ b → total after ≤ total before
      go true e = let f = d.fewer e in omega arith
      go false e = let f = ap total (d.same e) in omega arith

    -- Some lanes lost it,
    dropped_less : moved ≡ true → DroppedTo visited (i + 1) p truth backing before more true
    dropped_less t = record {
      narrowed = narrows;
      same = λ q. absurd (true≢false q);
      backed = λ q. absurd (true≢false q);
      fewer = λ q. let m = at_most in omega (arith, dropped_fewer valid within d.narrowed.long one t);
    }

    -- or none did.
    dropped_same : moved ≡ false → DroppedTo visited (i + 1) p truth backing before more changed
    dropped_same t = record {
      narrowed = narrows;
      same = λ q. still ∙ d.same q;
      backed = λ q. record {
        at = λ l r h k x.
            elim (ℕ_discrete r i) [
              | yes z ↦ rw z (backs q l h (rw z at x))
              | no ne ↦ (d.backed q).at l r h (omega (arith, ne)) x
            ];
      };
      fewer = λ q. rw still (d.fewer q);
    } where
      still : more ≡ after
      still = dropped_still one t

      backs : changed ≡ false → (l : ℕ) → l < 64 → T (lane_bit l (get_or before (visited i) 0))
          → T (lane_bit l (get_or backing (visited i) 0)
          or entry_holds (dual p) (lane (judged p.atoms) l truth) (lane (judged p.atoms) l before) (dual p) (visited i))
      backs q l h x =
          let e = still ∙ d.same q in
          rw e at (left_backed valid within d.narrowed.long one l h (rw e x))

    pub dropped_then : DroppedTo visited (i + 1) p truth backing before more (moved or changed)
    dropped_then = go moved refl where
      go : (m : Bool) → moved ≡ m → DroppedTo visited (i + 1) p truth backing before more (moved or changed)
      go true e = rw (e, true_or changed) (dropped_less e)
      go false e = rw (e, false_or changed) (dropped_same e)

-- An entry by itself leaves less to be done where it changes a word.
pub entry_goes_on : {p : Program} {rows truth backing before after : List ℕ} {place : ℕ} {moved : Bool} → EntryStands p rows place
    → length before ≡ 513 → Dropped p (get_or rows place 0) truth backing before after moved → Passing total before after moved
entry_goes_on stands long one = record { same = dropped_still one; less = dropped_fewer stands.valid stands.within long one }

-- ---- passes until one changes nothing

module _ {visited : ℕ → ℕ} {count : ℕ} {p : Program} {truth backing before falses after : List ℕ} {changed : Bool}
    (w : Narrowed visited count p truth backing before falses) (d : DroppedTo visited count p truth backing falses after changed) where
  pub narrowed_pass : Narrowed visited count p truth backing before after
  narrowed_pass = narrowed_then w d.narrowed (omega arith) (λ j h. (j, (h, refl)))

  -- Where the pass has changed nothing, each is backed.
  pub part_dropped : changed ≡ false → PartDropped visited count p truth backing before after
  part_dropped e = record { narrowed = narrowed_pass; backed = subst (BackedTo visited count p truth backing) (sym (d.same e)) (d.backed e) }
