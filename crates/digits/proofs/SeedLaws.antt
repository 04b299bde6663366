-- The abducible literals of 64 scenarios, as the loop over the abducibles meets them.
-- Assumes nothing.
use mathlib.Core.Path.{◌≡◌, refl, sym, ap, subst, ◌∙◌}
use mathlib.Core.Bool.{Bool, true, false, cond, true≢false}
use mathlib.Core.List.{List, [], ◌∷◌, ◌++◌, append_assoc, append-nil}
use Prim.Native.Nat.{ℕ, suc, ◌+◌, ◌*◌, ◌/◌, ◌%◌, ◌^◌, ◌≤◌, ◌<◌}
use native.Mathlib.Decide.{ℕ_discrete}
use native.Mathlib.Nat.{div-div-eq-div-mul, pow-succ', pow-suc}
use native.Mathlib.Omega.{arith}
use borrow.Author.Tests.{eq-eqb, ne_eqb}
use lib.Dec.{eqb}
use lib.ListN.{length, get_or, set, length-set, length-append}
use lib.Seq.{get_or-set_same, get_or-set_other}
use Rattle.literals.specs.Numbering.{positive, negative, atom_number, explicitly_negated, judged}
use Rattle.papers.specs.Program.{Program}
use Rattle.papers.specs.Field.{number_in, numbers}
use Rattle.papers.specs.Content.{is_among}
use Rattle.papers.specs.Valid.{All, each, Rising, Rising.next as above}
use Rattle.papers.proofs.NumbersWalked.{no_number}
use Rattle.model.specs.Scenarios.{digit_of, true_abducible, false_abducible}
use Rattle.lanes.specs.Lanes.{lane_bit, KeptFrom}
use Rattle.digits.specs.Digits.{DigitLanes, AbducibleLanes}
use Rattle.lanes.proofs.LaneLaws.{lane_none}
use Rattle.digits.proofs.Powers.{power_fits}
use Rattle.digits.proofs.ClearedWords.{kept_same, kept_through, kept_set, Cleared}

-- ---- one abducible more

digit_other : (l : List ℕ) (a s atom : ℕ) → (a ≡ atom → ⊥) → digit_of (l ++ a ∷ []) s atom ≡ digit_of l s atom
unfolding digit_of
digit_other [] a s atom n = rw (ne_eqb a atom n)
digit_other (x ∷ l) a s atom n = ap (λ (d : ℕ). cond (eqb x atom) (s % 3) d) (digit_other l a (s / 3) atom n)

digit_new : (l : List ℕ) (a s : ℕ) → is_among l a ≡ false → digit_of (l ++ a ∷ []) s a ≡ s / 3 ^ length l % 3
unfolding digit_of is_among
digit_new [] a s h = rw (eq-eqb a a refl) (let e : s / 3 ^ 0 ≡ s = omega arith in rw e)
digit_new (x ∷ l) a s h = go (eqb x a) h (digit_new l a (s / 3)) where
  go : (b : Bool) → cond b true (is_among l a) ≡ false → (is_among l a ≡ false → digit_of (l ++ a ∷ []) (s / 3) a ≡ s / 3 / 3 ^ length l % 3)
      → cond b (s % 3) (digit_of (l ++ a ∷ []) (s / 3) a) ≡ s / 3 ^ suc (length l) % 3
  go true e ih = absurd (true≢false e)
  go false e ih = ih e ∙ ap (λ (m : ℕ). m % 3) (div-div-eq-div-mul s 3 (3 ^ length l) ∙ ap (λ (m : ℕ). s / m) (sym (pow-succ' 3 (length l))))

-- ---- the two words of an atom

-- By a value for the even literal of an atom and one for the odd one.
abbrev pub by_digit : List ℕ → ℕ → ℕ → ℕ → ℕ → Bool
by_digit l s even odd o = eqb (digit_of l s (atom_number o)) (cond (explicitly_negated o) odd even)

-- Each lane of each of the first n words is by the digits of these abducibles; the words behind are as they were before.
pub record Seeded (n base even odd : ℕ) (abducibles before words : List ℕ) : Type 0 where
  pub long : length words ≡ 513
  pub at : (l o : ℕ) → l < 64 → o < n → lane_bit l (get_or words o 0) ≡ by_digit abducibles (base + l) even odd o
  pub kept : KeptFrom n before words

module _ (n base even odd : ℕ) where
  pub seeded_none : {first words : List ℕ} → even < 3 → odd < 3 → Cleared n first words → Seeded n base even odd [] words words
  unfolding digit_of
  seeded_none {words = words} e d w = record {
    long = w.long;
    at = λ l o h k. rw (w.none o k) (lane_none l ∙ sym (none (explicitly_negated o)));
    kept = kept_same n words;
  }
    where
      none : (b : Bool) → eqb 3 (cond b odd even) ≡ false
      none true = ne_eqb 3 odd (λ q. omega arith)
      none false = ne_eqb 3 even (λ q. omega arith)

  module _ (l before words : List ℕ) (w : Seeded n base even odd l before words) (a : ℕ) (apart : is_among l a ≡ false) (few : negative a < n) (most : n ≤ 513)
      (first second : ℕ) (here : DigitLanes base (3 ^ length l) even first) (there : DigitLanes base (3 ^ length l) odd second) where
    abbrev after : List ℕ
    after = set (set words (positive a) first) (negative a) second

    at_even : (k : ℕ) → k < 64 → lane_bit k (get_or after (positive a) 0) ≡ by_digit (l ++ a ∷ []) (base + k) even odd (positive a)
    at_even k h =
        let d : atom_number (positive a) ≡ a = omega arith in
        let m : explicitly_negated (positive a) ≡ false = ne_eqb (positive a % 2) 1 (λ q. omega arith) in
        let g : get_or after (positive a) 0 ≡ first =
        get_or-set_other (set words (positive a) first) (negative a) (positive a) second 0 (λ q. omega arith)
        ∙ get_or-set_same words (positive a) first 0 (omega (arith, w.long)) in
        rw (g, d, m, digit_new l a (base + k) apart) (here.at k h)

    at_odd : (k : ℕ) → k < 64 → lane_bit k (get_or after (negative a) 0) ≡ by_digit (l ++ a ∷ []) (base + k) even odd (negative a)
    at_odd k h =
        let d : atom_number (negative a) ≡ a = omega arith in
        let m : explicitly_negated (negative a) ≡ true = eq-eqb (negative a % 2) 1 (omega arith) in
        let g : get_or after (negative a) 0 ≡ second =
        get_or-set_same (set words (positive a) first) (negative a) second 0 (simp length-set (omega (arith, w.long))) in
        rw (g, d, m, digit_new l a (base + k) apart) (there.at k h)

    elsewhere : (k o : ℕ) → k < 64 → o < n → (a ≡ atom_number o → ⊥) → lane_bit k (get_or after o 0) ≡ by_digit (l ++ a ∷ []) (base + k) even odd o
    elsewhere k o h judged m =
        let g : get_or after o 0 ≡ get_or words o 0 =
        get_or-set_other (set words (positive a) first) (negative a) o second 0 (λ q. m (omega arith))
        ∙ get_or-set_other words (positive a) o first 0 (λ q. m (omega arith)) in
        rw (g, digit_other l a (base + k) (atom_number o) m) (w.at k o h judged)

    pub seeded_more : Seeded n base even odd (l ++ a ∷ []) before after
    seeded_more = record {
      long = simp length-set w.long;
      at = λ k o h judged. elim (ℕ_discrete o (positive a)) [
        | yes e ↦ rw e (at_even k h)
        | no e ↦ elim (ℕ_discrete o (negative a)) [
          | yes f ↦ rw f (at_odd k h)
          | no f ↦ elsewhere k o h judged (λ q. omega arith)
        ]
      ];
      kept = kept_set (set words (positive a) first) (kept_set words w.kept (positive a) first (omega arith)) (negative a) second few;
    }

-- ---- the loop

rising_after : (least : ℕ) (l : List ℕ) (a : ℕ) (more : List ℕ) → Rising least (l ++ a ∷ more) → least ≤ a
rising_after least [] a more (above g rest) = g
rising_after least (x ∷ l) a more (above g rest) = let k = rising_after (x + 1) l a more rest in omega arith

rising_apart : (least : ℕ) (l : List ℕ) (a : ℕ) (more : List ℕ) → Rising least (l ++ a ∷ more) → is_among l a ≡ false
unfolding is_among
rising_apart least [] a more r = refl
rising_apart least (x ∷ l) a more (above g rest) =
    let k = rising_after (x + 1) l a more rest in
    rw (ne_eqb x a (λ q. omega arith)) (rising_apart (x + 1) l a more rest)

all_there : {P : ℕ → Type 0} (l : List ℕ) (a : ℕ) (more : List ℕ) → All P (l ++ a ∷ more) → P a
all_there [] a more (each p rest) = p
all_there (x ∷ l) a more (each p rest) = all_there l a more rest

-- The first number of the bytes that are left, and those after it.
pair_read : (pair more : List ℕ) (a : ℕ) → length pair ≡ 2 → a ≡ number_in pair 0 → numbers (pair ++ more) ≡ a ∷ numbers more
unfolding numbers
pair_read (high ∷ low ∷ []) more a h e = rw (← e)
pair_read [] more a h e = absurd (omega arith)
pair_read (high ∷ []) more a h e = absurd (omega arith)
pair_read (high ∷ low ∷ other ∷ others) more a h e = absurd (omega arith)

-- The abducibles behind have their words; those of these bytes are left.
pub record Seeding (n base : ℕ) (all trues₀ falses₀ trues falses left : List ℕ) (power : ℕ) : Type 0 where
  pub done : List ℕ
  pub split : all ≡ done ++ numbers left
  pub raised : power ≡ 3 ^ length done
  pub true_words : Seeded n base 1 2 done trues₀ trues
  pub false_words : Seeded n base 2 1 done falses₀ falses

pub seeding_none : (n base : ℕ) {all left first second trues falses : List ℕ} → numbers left ≡ all → Cleared n first trues → Cleared n second falses
    → Seeding n base all trues falses trues falses left 1
seeding_none n base listing t f = record {
  done = [];
  split = sym listing;
  raised = refl;
  true_words = seeded_none n base 1 2 (omega arith) (omega arith) t;
  false_words = seeded_none n base 2 1 (omega arith) (omega arith) f;
}

module _ {n base : ℕ} {all trues₀ falses₀ trues falses left : List ℕ} {power : ℕ} (w : Seeding n base all trues₀ falses₀ trues falses left power) where
  seeding_done : length left < 2 → w.done ≡ all
  seeding_done h = sym (w.split ∙ ap (λ (x : List ℕ). w.done ++ x) (no_number left 0 (omega arith)) ∙ append-nil w.done)

  -- Where all are behind, from rows that were cleared.
  pub seeding_ends : (p : Program) {first second : List ℕ} → n ≡ judged p.atoms → all ≡ p.abducibles → length left < 2
      → Cleared n first trues₀ → Cleared n second falses₀
      → AbducibleLanes p base trues falses × KeptFrom (judged p.atoms) first trues × KeptFrom (judged p.atoms) second falses
  unfolding true_abducible false_abducible
  seeding_ends p {first} {second} size listing h t f =
      let d = seeding_done h ∙ listing in
      let x : Seeded n base 1 2 p.abducibles trues₀ trues = rw d at w.true_words in
      let y : Seeded n base 2 1 p.abducibles falses₀ falses = rw d at w.false_words in (
        record { true_at = λ l o k j. x.at l o k (omega arith); false_at = λ l o k j. y.at l o k (omega arith) },
        subst (λ (m : ℕ). KeptFrom m first trues) size (kept_through t.kept x.kept),
        subst (λ (m : ℕ). KeptFrom m second falses) size (kept_through f.kept y.kept),
      )

  module _ (pair more : List ℕ) (cut : left ≡ pair ++ more) (two : length pair ≡ 2) (a : ℕ) (is : a ≡ number_in pair 0) where
    mid : all ≡ w.done ++ a ∷ numbers more
    mid = w.split ∙ ap (λ (l : List ℕ). w.done ++ numbers l) cut ∙ ap (λ (l : List ℕ). w.done ++ l) (pair_read pair more a two is)

    pub seeding_below : (m : ℕ) → All (◌< m) all → a < m
    seeding_below m listed = all_there w.done a (numbers more) (subst (All (◌< m)) mid listed)

    -- The power of 3 is one of the first sixteen.
    pub seeding_bounded : length all ≤ 16 → (0 < power) × (power ≤ 43046721)
    seeding_bounded few = let e = simp length-append at (ap length mid) in power_fits w.raised (omega arith)

    pub seeding_more : Rising 0 all → negative a < n → n ≤ 513
        → (assumed ruled : ℕ) → DigitLanes base power 1 assumed → DigitLanes base power 2 ruled
        → Seeding n base all trues₀ falses₀ (set (set trues (positive a) assumed) (negative a) ruled)
        (set (set falses (positive a) ruled) (negative a) assumed) more (power * 3)
    seeding_more rising few most assumed ruled x y =
        let apart = rising_apart 0 w.done a (numbers more) (subst (Rising 0) mid rising) in record {
          done = w.done ++ a ∷ [];
          split = mid ∙ sym (append_assoc w.done (a ∷ []) (numbers more));
          raised = ap (λ (k : ℕ). k * 3) w.raised ∙ sym (pow-suc 3 (length w.done)) ∙ ap (λ (k : ℕ). 3 ^ k) (simp length-append (omega arith));
          true_words = seeded_more n base 1 2 w.done trues₀ trues w.true_words a apart few most assumed ruled (rw w.raised at x) (rw w.raised at y);
          false_words = seeded_more n base 2 1 w.done falses₀ falses w.false_words a apart few most ruled assumed (rw w.raised at y) (rw w.raised at x);
        }
