-- When every part is closed, what is left is the greatest set, in every lane.
-- Assumes nothing.
use mathlib.Core.Path.{◌≡◌, ◌∙◌}
use mathlib.Core.List.{List}
use Prim.Native.Nat.{ℕ, ◌<◌}
use native.Mathlib.Omega.{arith}
use lib.Dec.{T}
use lib.ListN.{length, get_or}
use Rattle.literals.specs.Numbering.{judged}
use Rattle.papers.specs.Program.{Program}
use Rattle.dual.specs.Table.{dual}
use Rattle.parts.specs.Parts.{head_at}
use Rattle.papers.specs.Tests.{◌or◌}
use Rattle.model.specs.Sets.{Set, has}
use Rattle.model.specs.Scenarios.{false_abducible}
use Rattle.model.specs.Model.{conjugate_in}
use Rattle.model.specs.Falsity.{entry_holds, backed, greatest}
use Rattle.lanes.specs.Lanes.{lane_bit, lane, Written}
use Rattle.closing.specs.FalseWords.{EntriesStand, GreatestGiven, FalseWords, PartDropped}
use Rattle.closing.proofs.EntriesVisited.{visits_judged, objective_every}
use Rattle.lanes.specs.Words.{same_word}
use Rattle.papers.proofs.TestLaws.{or_assoc}
use Rattle.model.proofs.SetLaws.{has_within}
use Rattle.model.proofs.FalsityLaws.{greatest_only}
use Rattle.lanes.proofs.LaneLaws.{lane_full, sized as lane-sized, has_lane}

-- ---- when all parts are closed

module _ {p : Program} {rows visits truth backing before filled falses : List ℕ} (s : EntriesStand p rows visits)
    (f : Written (length visits) (same_word 18446744073709551615) before filled)
    (d : PartDropped (head_at rows visits) (length visits) p truth backing filled falses) where
  abbrev n : ℕ
  n = judged p.atoms

  -- A backed set is within all judged literals.
  from_all : (l : ℕ) → l < 64 → (t : Set) → length t ≡ n → (o : ℕ) → T (has t o) → T (lane_bit l (get_or filled o 0))
  unfolding same_word
  from_all l h t z o y =
      let m = has_within t o y in
      let e = visits_judged s in
      rw (f.at o (omega arith), lane_full l h) tt

  each_backed : (l o : ℕ) → l < 64 → o < n → T (lane_bit l (get_or falses o 0))
      → T (lane_bit l (get_or backing o 0) or entry_holds (dual p) (lane n l truth) (lane n l falses) (dual p) o)
  each_backed l o h k x =
      let v = objective_every s o k in
      rw v.1.1 at (d.backed.at l v.0 h v.1.0 (rw v.1.1 x))

  inside : (l o : ℕ) → T (has (lane n l falses) o) → o < n
  inside l o y = let m = has_within (lane n l falses) o y in let e = lane-sized n l falses in omega arith

  pub closing_done : FalseWords p truth backing before falses
  closing_done = record {
    at = λ l h. record {
      backed = record {
        sized = lane-sized n l falses;
        each = λ o y. let k = inside l o y in rw (has_lane n l o backing k) (each_backed l o h k (rw (has_lane n l o falses k) at y));
      };
      holds = λ t b o y.
          let m = has_within t o y in
          let z = b.sized in
          let k : o < n = omega arith in
          rw (has_lane n l o falses k) (d.narrowed.keeps l h t b (from_all l h t z) o y);
    };
    beyond = record { at = λ o h. let e = visits_judged s in d.narrowed.beyond.at o h ∙ f.beyond.at o (omega arith) };
  }

-- ---- the greatest set of a scenario

-- Where what is given is a conjugate in T or a false abducible literal, it is document 01's.
module _ (p : Program) (s : ℕ) (given trues set : Set)
    (is : (o : ℕ) → o < judged p.atoms → has given o ≡ (conjugate_in p.atoms trues o or false_abducible p s o)) where
  backed_is : (t : Set) (o : ℕ) → o < judged p.atoms → (has given o or entry_holds (dual p) trues t (dual p) o) ≡ backed p s (dual p) trues t o
  unfolding backed
  backed_is t o h = rw (is o h) (or_assoc (conjugate_in p.atoms trues o) (false_abducible p s o) (entry_holds (dual p) trues t (dual p) o))

  judged_in : (t : Set) (o : ℕ) → length t ≡ judged p.atoms → T (has t o) → o < judged p.atoms
  judged_in t o e y = let m = has_within t o y in omega arith

  pub given_greatest : GreatestGiven p given trues set → set ≡ greatest p s (dual p) trues
  given_greatest g =
      greatest_only p s (dual p) trues set
      (record { sized = g.backed.sized; each = λ o y. rw (backed_is set o (judged_in set o g.backed.sized y)) at (g.backed.each o y) })
      (λ t b. record { at = g.holds t (record { sized = b.sized; each = λ o y. rw (backed_is t o (judged_in t o b.sized y)) (b.each o y) }) })

-- In a lane of words.
pub lane_greatest : (p : Program) (s l : ℕ) (truth backing before falses : List ℕ) → l < 64 → FalseWords p truth backing before falses
    → ((o : ℕ) → o < judged p.atoms → lane_bit l (get_or backing o 0) ≡ (conjugate_in p.atoms (lane (judged p.atoms) l truth) o or false_abducible p s o))
    → lane (judged p.atoms) l falses ≡ greatest p s (dual p) (lane (judged p.atoms) l truth)
lane_greatest p s l truth backing before falses h w is =
    given_greatest p s (lane (judged p.atoms) l backing) (lane (judged p.atoms) l truth) (lane (judged p.atoms) l falses)
    (λ o k. has_lane (judged p.atoms) l o backing k ∙ is o k) (w.at l h)
