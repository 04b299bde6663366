-- The word of a clause, as the loop over its literals meets them.
-- Assumes nothing.
use mathlib.Core.Path.{◌≡◌, sym, ap, ◌∙◌}
use mathlib.Core.Bool.{Bool}
use mathlib.Core.List.{List, ◌∷◌}
use Prim.Native.Nat.{ℕ, ◌+◌, ◌≤◌, ◌<◌}
use native.Mathlib.Numerals.{add-one}
use lib.ListN.{length, get_or, drop, drop_of_length-le}
use lib.Seq.{drop-cons}
use lib.Bits.{bit_or}
use Rattle.literals.specs.declared.bodies.BodyLiteral.{BodyLiteral}
use Rattle.literals.specs.BodyLiterals.{body_literal, Below}
use Rattle.papers.specs.Tests.{◌or◌}
use Rattle.model.specs.Falsity.{some_holds}
use Rattle.lanes.specs.Lanes.{lane_bit, lane}
use Rattle.lanes.specs.Words.{word_of, Literals}
use Rattle.closing.specs.FalseWords.{SomeWord}
use Rattle.papers.proofs.TestLaws.{or_false, false_or, or_assoc}
use Rattle.lanes.proofs.LaneLaws.{lane_or, lane_none}
use Rattle.lanes.proofs.WordLaws.{word_holds, literals_first, literals_more}

-- The word has the first i literals; the others are still to come.
pub record SomeTo (clause truth falses : List ℕ) (i word : ℕ) : Type 0 where
  pub later : (n : ℕ) → Literals n clause → Literals n (drop i clause)
  pub at : (n l : ℕ) → Literals n clause
      → (lane_bit l word or some_holds (lane n l truth) (lane n l falses) (drop i clause))
      ≡ some_holds (lane n l truth) (lane n l falses) clause

module _ (clause truth falses : List ℕ) where
  pub some_to_none : SomeTo clause truth falses 0 0
  some_to_none = record { later = λ n a. a; at = λ n l a. rw (lane_none l) (false_or _) }

  module _ (i word : ℕ) (s : SomeTo clause truth falses i word) where
    pub some_to_all : length clause ≤ i → SomeWord clause truth falses word
    unfolding some_holds
    some_to_all h = record {
      at = λ n l a. sym (or_false (lane_bit l word)) ∙ (rw (drop_of_length-le clause h) at (s.at n l a));
    }

    module _ (here : i < length clause) {x : BodyLiteral} (is : x ≡ body_literal (get_or clause i 0)) where
      one : drop i clause ≡ get_or clause i 0 ∷ drop (i + 1) clause
      one = drop-cons clause i 0 here ∙ rw add-one

      parted : (n : ℕ) → Literals n clause → Below n x × Literals n (drop (i + 1) clause)
      parted n a = let b = rw one at (s.later n a) in (rw is (literals_first b), literals_more b)

      pub some_to_below : Literals 513 clause → Below 513 x
      some_to_below a = (parted 513 a).0

      pub some_to_more : SomeTo clause truth falses (i + 1) (bit_or word (word_of x truth falses))
      unfolding some_holds
      some_to_more = record {
        later = λ n a. (parted n a).1;
        at = λ n l a.
            let rest = some_holds (lane n l truth) (lane n l falses) (drop (i + 1) clause) in
            ap (λ (b : Bool). b or rest) (lane_or l word (word_of x truth falses))
            ∙ or_assoc (lane_bit l word) (lane_bit l (word_of x truth falses)) rest
            ∙ ap (λ (b : Bool). lane_bit l word or (b or rest)) (word_holds n x truth falses (parted n a).0 l)
            ∙ (rw (one, ← is) at (s.at n l a));
      }
