-- The lanes that are explanations, by the models.
-- Assumes nothing.
use mathlib.Core.Path.{◌≡◌, sym, ap, ap₂, ◌∙◌}
use mathlib.Core.Bool.{Bool, false, not}
use mathlib.Core.List.{List}
use mathlib.Core.Logic.{inl}
use Prim.Native.Nat.{ℕ, ◌+◌, ◌≤◌, ◌<◌}
use native.Mathlib.Omega.{arith}
use lib.Bits.{bit_and, bit_or}
use lib.ListN.{get_or, take}
use Rattle.std.proofs.lemmas.List.{get_or-take}
use Rattle.literals.specs.Numbering.{judged, falsum}
use Rattle.literals.proofs.BodyLaws.{listed_below}
use Rattle.papers.specs.Program.{Program, Query}
use Rattle.papers.specs.Reading.{program_in}
use Rattle.papers.specs.Valid.{ValidQuery}
use Rattle.papers.proofs.Lists.{all_each}
use Rattle.papers.proofs.TestLaws.{and_assoc}
use Rattle.papers.specs.Tests.{◌and◌, ◌or◌}
use Rattle.model.specs.Sets.{has, flags_from}
use Rattle.model.specs.LeastSet.{body_holds}
use Rattle.model.specs.Model.{value_bytes, contradictory}
use Rattle.lanes.specs.Lanes.{lane_bit, lane}
use Rattle.lanes.specs.Words.{OtherLanes, Literals, BodyWord}
use Rattle.settling.specs.RoundLanes.{SettledLanes}
use Rattle.settling.proofs.DecodedLaws.{decoded_atoms}
use Rattle.verdicts.specs.declared.AskedFile.{AskedFile}
use Rattle.verdicts.specs.VerdictLanes.{DecodedPapers, BothLanes, ExplainedWord, VerdictLanes}
use Rattle.lanes.proofs.LaneLaws.{lane_and, lane_or, lane_none, has_lane}
use Rattle.model.proofs.ByteLaws.{contradictory_grown, explains_is}

-- The lanes of a contradiction, as the loop over the words gathers them.
pub both_none : (trues falses : List ℕ) → BothLanes 0 trues falses 0
unfolding lane flags_from value_bytes contradictory
both_none trues falses = record { at = lane_none }

pub both_more : (count : ℕ) (trues falses : List ℕ) (word o t f : ℕ) → o < count → t ≡ get_or (take count trues) o 0
    → f ≡ get_or (take count falses) o 0 → BothLanes o trues falses word → BothLanes (o + 1) trues falses (bit_or word (bit_and t f))
unfolding lane
both_more count trues falses word o t f h e g b = rw (e, g, get_or-take count trues o 0 h, get_or-take count falses o 0 h) record {
  at = λ l.
      lane_or l word (bit_and (get_or trues o 0) (get_or falses o 0))
      ∙ ap₂ ◌or◌ (b.at l) (lane_and l (get_or trues o 0) (get_or falses o 0))
      ∙ sym (contradictory_grown (λ i. lane_bit l (get_or trues i 0)) (λ i. lane_bit l (get_or falses i 0)) o);
}

pub explained_word : (n o : ℕ) (query trues falses : List ℕ) (other holding both consistent : ℕ) → o ≡ falsum n → Literals (judged n) query
    → OtherLanes (get_or trues o 0) other → BodyWord query trues falses (bit_and other (get_or falses o 0)) holding
    → BothLanes (judged n) trues falses both → OtherLanes both consistent → ExplainedWord n query trues falses (bit_and holding consistent)
explained_word n o query trues falses other holding both consistent e q k b m c = record {
  at = λ l h.
      lane_and l holding consistent
      ∙ ap₂ ◌and◌
      (b.in_lane (judged n) q l
      ∙ ap (λ (x : Bool). x and body_holds false (lane (judged n) l trues) (lane (judged n) l falses) query)
      (lane_and l other (get_or falses o 0) ∙ ap₂ ◌and◌ (k.at l h ∙ ap not (there l trues)) (there l falses)))
      (c.at l h ∙ ap not (m.at l))
      ∙ and_assoc _ (body_holds false (lane (judged n) l trues) (lane (judged n) l falses) query) _;
}
  where
    there : (l : ℕ) (words : List ℕ) → lane_bit l (get_or words o 0) ≡ has (lane (judged n) l words) (falsum n)
    there l words = rw e (sym (has_lane (judged n) l (falsum n) words (omega arith)))

-- A query's literals are among the judged ones.
pub query_listed : (n : ℕ) {q : Query} → ValidQuery n q → Literals (judged n) q
query_listed n v = record { below = all_each (λ l h. listed_below n l (inl h)) v.listed }

-- By the atoms that the file tells.
pub asked_listed : {a : AskedFile} → DecodedPapers a → Literals (judged a.decoded.contents.atoms) a.query.now
asked_listed {a = a} s = rw (decoded_atoms s.file_in) at (query_listed (program_in a.decoded.file.now).atoms s.asked)

module _ (p : Program) (base : ℕ) (trues falses counts : List ℕ) (s : SettledLanes p base trues falses counts) where
  pub verdict_lanes : p.atoms ≤ 256 → (q : Query) (w : ℕ) → ValidQuery p.atoms q → ExplainedWord p.atoms q trues falses w
      → VerdictLanes p q base w counts
  verdict_lanes few q w v e = record {
    explained = λ l h.
        e.at l h
        ∙ rw (s.true_in l h, s.false_in l h) (sym (explains_is p (base + l) few v.listed));
    counted = s.counted;
  }
