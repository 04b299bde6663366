-- Laws of a literal's word and of a body's, as the code that reads them meets them.
-- Assumes nothing.
use mathlib.Core.Path.{◌≡◌, refl, sym, ◌∙◌}
use mathlib.Core.Bool.{Bool, true, false, cond}
use mathlib.Core.List.{List, ◌∷◌}
use Prim.Native.Nat.{ℕ, ◌+◌, ◌≤◌, ◌<◌}
use native.Mathlib.Numerals.{add-one}
use lib.Bits.{bit_and}
use lib.ListN.{length, get_or, drop, drop_of_length-le}
use lib.Seq.{drop-cons}
use Rattle.literals.specs.declared.bodies.BodyLiteral.{BodyLiteral}
use Rattle.literals.specs.declared.bodies.BodyLiteral.TheVariants.{Is, Undefined}
use Rattle.literals.specs.Numbering.{objective_number, default_negated}
use Rattle.literals.specs.BodyLiterals.{body_literal, Below}
use Rattle.literals.proofs.BodyLaws.{below_more}
use Rattle.papers.proofs.Lists.{all_each, first_of}
use Rattle.papers.specs.Tests.{◌and◌}
use Rattle.model.specs.Sets.{has}
use Rattle.model.specs.LeastSet.{literal_holds, body_holds}
use Rattle.lanes.specs.Lanes.{lane_bit, lane}
use Rattle.lanes.specs.Words.{word_of, Literals, BodyWord}
use Rattle.papers.proofs.TestLaws.{false_and, and_true, and_assoc}
use Rattle.lanes.proofs.LaneLaws.{lane_and, lane_none, has_lane}

-- ---- a literal

-- Its word says in each lane whether it holds.
pub word_holds : (n : ℕ) (x : BodyLiteral) (set negated : List ℕ) → Below n x → (l : ℕ)
    → lane_bit l (word_of x set negated) ≡ literal_holds false (lane n l set) (lane n l negated) x
unfolding word_of literal_holds Below
word_holds n Undefined set negated h l = lane_none l
word_holds n (Is x) set negated h l = go (default_negated x.0) where
  go : (b : Bool) → lane_bit l (cond b (get_or negated (objective_number x.0) 0) (get_or set (objective_number x.0) 0))
      ≡ cond b (has (lane n l negated) (objective_number x.0)) (has (lane n l set) (objective_number x.0))
  go true = sym (has_lane n l (objective_number x.0) negated h)
  go false = sym (has_lane n l (objective_number x.0) set h)

-- ---- a body

-- A walk over a body: of the lanes, it holds in those of the word in which the literals from the i-th on hold.
pub record WordTo (i : ℕ) (body set negated : List ℕ) (lanes word : ℕ) : Type 0 where
  pub rest : (n : ℕ) → Literals n body → Literals n (drop i body)
  pub in_lane : (n : ℕ) → Literals n body → (l : ℕ)
      → (lane_bit l lanes and body_holds false (lane n l set) (lane n l negated) body)
      ≡ (lane_bit l word and body_holds false (lane n l set) (lane n l negated) (drop i body))

pub literals_first : {n x : ℕ} {more : List ℕ} → Literals n (x ∷ more) → Below n (body_literal x)
literals_first h = (first_of h.below).0

pub literals_more : {n x : ℕ} {more : List ℕ} → Literals n (x ∷ more) → Literals n more
literals_more h = record { below = (first_of h.below).1 }

-- Of n objective literals, so of more.
pub literals_of : {n m : ℕ} {body : List ℕ} → n ≤ m → Literals n body → Literals m body
literals_of {n} h w = record { below = all_each (λ (l : ℕ) (b : Below n (body_literal l)). below_more h (body_literal l) b) w.below }

module _ (body set negated : List ℕ) (lanes : ℕ) where
  pub word_starts : WordTo 0 body set negated lanes lanes
  word_starts = record { rest = λ n h. h; in_lane = λ n h l. refl }

  module _ (i word : ℕ) (so_far : WordTo i body set negated lanes word) where
    pub word_ends : length body ≤ i → BodyWord body set negated lanes word
    unfolding body_holds
    word_ends e = record {
      in_lane = λ n h l. sym (so_far.in_lane n h l ∙ rw (drop_of_length-le body e) (and_true (lane_bit l word)));
    }

    -- Where no lane is left, none comes in.
    pub word_left : word ≡ 0 → BodyWord body set negated lanes 0
    word_left e = record {
      in_lane = λ n h l. lane_none l ∙ sym (so_far.in_lane n h l ∙ rw (e, lane_none l) (false_and _));
    }

    module _ (here : i < length body) {x : BodyLiteral} (is : x ≡ body_literal (get_or body i 0)) where
      one : drop i body ≡ get_or body i 0 ∷ drop (i + 1) body
      one = drop-cons body i 0 here ∙ rw add-one

      pub literal_below : (n : ℕ) → Literals n body → Below n x
      literal_below n h = rw is (literals_first (rw one at (so_far.rest n h)))

      pub word_goes_on : WordTo (i + 1) body set negated lanes (bit_and word (word_of x set negated))
      unfolding body_holds
      word_goes_on = record {
        rest = λ n h. literals_more (rw one at (so_far.rest n h));
        in_lane = λ n h l.
            so_far.in_lane n h l
            ∙ rw (one, ← is, lane_and l word (word_of x set negated), word_holds n x set negated (literal_below n h) l)
            (sym (and_assoc (lane_bit l word) (literal_holds false (lane n l set) (lane n l negated) x) _));
      }
