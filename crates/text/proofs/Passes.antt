-- What importing comes to for code that goes by passes: only 3 for field 03, then the runs; and how many abducibles there are, counted as
-- they are declared.
-- Assumes nothing.
use mathlib.Core.Path.{◌≡◌, refl, sym, ap, ◌∙◌}
use mathlib.Core.Bool.{Bool, true, false, cond}
use mathlib.Core.List.{List, [], ◌∷◌, map}
use Prim.Native.Nat.{ℕ, zero, suc, ◌+◌, ◌*◌, ◌%◌, ◌≤◌, ◌<◌}
use native.Mathlib.Decide.{dec_lt, ℕ_discrete}
use native.Mathlib.Omega.{arith}
use borrow.Author.Tests.{eq-eqb, ne_eqb, le-leb, lt-leb}
use lib.Dec.{eqb, leb}
use lib.ListN.{length}
use Rattle.papers.specs.Program.{Program}
use Rattle.papers.specs.Outcome.{check}
use Rattle.papers.specs.Field.{fewest, most, length_allowed}
use Rattle.papers.specs.Content.{is_among}
use Rattle.papers.specs.Valid.{All, none, each}
use Rattle.text.specs.Lines.{accepted, refused, passing, Line, abducible, rule, integrity, lines_of}
use Rattle.text.specs.Lines.{TextRefusal}
use Rattle.text.specs.Typed.{its, declared_in, rules_in, integrity_in, atoms_of, named_in, count_of, rising_from, program_typed}
use Rattle.text.specs.Importing.{overfull_at, check_run, check_typed, import_text}
use Rattle.text.proofs.ReadBack.{heading_is}
use Rattle.text.proofs.Fitting.{all_split, count_above, typed_fits}

pub import_refused : (text : List ℕ) {f : TextRefusal} → lines_of text ≡ refused f → import_text text ≡ refused f
unfolding import_text
import_refused text e = rw e

abducibles_length : (k : ℕ) → length_allowed 0x03 (2 * k) ≡ leb k 16
unfolding length_allowed fewest most
abducibles_length k = elim (dec_lt k 17) [
  | yes h ↦ rw (eq-eqb (2 * k % 2) 0 (omega arith), le-leb (2 * 0) (2 * k) (omega arith), le-leb (2 * k) (2 * 16) (omega arith), le-leb k 16 (omega arith))
  | no h ↦ rw (eq-eqb (2 * k % 2) 0 (omega arith), le-leb (2 * 0) (2 * k) (omega arith), lt-leb (2 * k) (2 * 16) (omega arith), lt-leb k 16 (omega arith))
]

-- The checks that can fail, in their order.
pub import_checks : (text : List ℕ) (lines : List Line) (p : Program) → lines_of text ≡ accepted lines → p ≡ program_typed lines
    → import_text text
    ≡ passing (check (leb (length p.abducibles) 16) 3 0) (overfull_at 16 [] (declared_in lines))
    (check_run 0x04 p.atoms p.abducibles 1024 (rules_in lines) (check_run 0x05 p.atoms p.abducibles 256 (integrity_in lines) (accepted p)))
unfolding import_text check_typed
import_checks text lines p e q =
    let t = typed_fits text lines e in
    let q2 = sym q in
    let a = rw q2 at t.atoms in
    let b = rw q2 at t.abducibles in
    rw (e, q2, a, heading_is 0x03 false p.abducibles, abducibles_length (length p.abducibles), b)

-- ---- counting different abducibles

-- How many of these atoms are new after those seen.
unfoldable pub new_among : List ℕ → List ℕ → ℕ
new_among seen [] = 0
new_among seen (d ∷ later) = cond (is_among seen d) (new_among seen later) (suc (new_among (d ∷ seen) later))

rising_ext : (a b : List ℕ) → ((x : ℕ) → is_among a x ≡ is_among b x) → (least count : ℕ) → rising_from a least count ≡ rising_from b least count
unfolding rising_from
rising_ext a b h least zero = refl
rising_ext a b h least (suc count) = rw (h least, rising_ext a b h (least + 1) count)

-- One more atom that is new adds one, wherever it stands in the range.
rising_below : (d : ℕ) (seen : List ℕ) (least count : ℕ) → d < least → rising_from (d ∷ seen) least count ≡ rising_from seen least count
unfolding rising_from is_among
rising_below d seen least zero h = refl
rising_below d seen least (suc count) h = rw (ne_eqb d least (omega arith), rising_below d seen (least + 1) count (omega arith))

rising_new : (d : ℕ) (seen : List ℕ) (least count : ℕ) → least ≤ d → d < least + count → is_among seen d ≡ false
    → length (rising_from (d ∷ seen) least count) ≡ suc (length (rising_from seen least count))
unfolding rising_from is_among
rising_new d seen least zero p q new = absurd (omega arith)
rising_new d seen least (suc count) p q new = elim (ℕ_discrete d least) [
  | yes e ↦
      let f : is_among seen least ≡ false = rw e at new in
      rw (eq-eqb d least e, f, rising_below d seen (least + 1) count (omega arith))
  | no e ↦
      let ih = rising_new d seen (least + 1) count (omega arith) (omega arith) new in
      rw (ne_eqb d least e) (go (is_among seen least) ih)
]
  where
    go : (t : Bool) → length (rising_from (d ∷ seen) (least + 1) count) ≡ suc (length (rising_from seen (least + 1) count))
        → length (cond t (least ∷ rising_from (d ∷ seen) (least + 1) count) (rising_from (d ∷ seen) (least + 1) count))
        ≡ suc (length (cond t (least ∷ rising_from seen (least + 1) count) (rising_from seen (least + 1) count)))
    go true ih = ap suc ih
    go false ih = ih

-- Those seen and those to come, as one list.
joined : List ℕ → List ℕ → List ℕ
joined seen [] = seen
joined seen (d ∷ later) = joined (d ∷ seen) later

among_again : (d : ℕ) (seen : List ℕ) → is_among seen d ≡ true → (x : ℕ) → is_among (d ∷ seen) x ≡ is_among seen x
unfolding is_among
among_again d seen h x = elim (ℕ_discrete d x) [
  | yes e ↦ rw (eq-eqb d x e, ← e, h)
  | no e ↦ rw (ne_eqb d x e)
]

cons_ext : (d : ℕ) (a b : List ℕ) → ((x : ℕ) → is_among a x ≡ is_among b x) → (x : ℕ) → is_among (d ∷ a) x ≡ is_among (d ∷ b) x
unfolding is_among
cons_ext d a b h x = rw (h x)

joined_ext : (a b later : List ℕ) → ((x : ℕ) → is_among a x ≡ is_among b x) → (x : ℕ) → is_among (joined a later) x ≡ is_among (joined b later) x
unfolding joined
joined_ext a b [] h x = h x
joined_ext a b (d ∷ later) h x = joined_ext (d ∷ a) (d ∷ b) later (cons_ext d a b h) x

counted : (n : ℕ) (seen later : List ℕ) → All (◌< n) later → length (rising_from (joined seen later) 0 n) ≡ length (rising_from seen 0 n) + new_among seen later
unfolding joined new_among
counted n seen [] none = omega arith
counted n seen (d ∷ later) (each h hs) = go (is_among seen d) refl (counted n (d ∷ seen) later hs) (counted n seen later hs)
  where
    go : (t : Bool) → is_among seen d ≡ t
        → length (rising_from (joined (d ∷ seen) later) 0 n) ≡ length (rising_from (d ∷ seen) 0 n) + new_among (d ∷ seen) later
        → length (rising_from (joined seen later) 0 n) ≡ length (rising_from seen 0 n) + new_among seen later
        → length (rising_from (joined (d ∷ seen) later) 0 n) ≡ length (rising_from seen 0 n) + cond t (new_among seen later) (suc (new_among (d ∷ seen) later))
    go true e ih again = rw (rising_ext (joined (d ∷ seen) later) (joined seen later) (joined_ext (d ∷ seen) seen later (among_again d seen e)) 0 n) again
    go false e ih again =
        let z : 0 + n ≡ n = omega arith in
        let one = rising_new d seen 0 n (omega arith) (rw z h) e in omega arith

either_among : (seen later : List ℕ) (x : ℕ) → is_among (joined seen later) x ≡ cond (is_among seen x) true (is_among later x)
unfolding joined is_among
either_among seen [] x = go (is_among seen x)
  where
    go : (t : Bool) → t ≡ cond t true false
    go true = refl
    go false = refl
either_among seen (d ∷ later) x = either_among (d ∷ seen) later x ∙ go (eqb d x) (is_among seen x)
  where
    go : (t u : Bool) → cond (cond t true u) true (is_among later x) ≡ cond u true (cond t true (is_among later x))
    go true true = refl
    go true false = refl
    go false true = refl
    go false false = refl

rising_none : (least count : ℕ) → rising_from [] least count ≡ []
unfolding rising_from is_among
rising_none least zero = refl
rising_none least (suc count) = rising_none (least + 1) count

-- The abducibles that are written are as many as the declarations of new ones.
pub rising_counted : (n : ℕ) (names : List ℕ) → All (◌< n) names → length (rising_from names 0 n) ≡ new_among [] names
rising_counted n names h =
    let same : rising_from names 0 n ≡ rising_from (joined [] names) 0 n =
    rising_ext names (joined [] names) (λ x. sym (either_among [] names x ∙ (unfold is_among in refl))) 0 n in
    let c = counted n [] names h in
    let z : length (rising_from [] 0 n) ≡ 0 = rw (rising_none 0 n) in
    let l : length (rising_from names 0 n) ≡ length (rising_from (joined [] names) 0 n) = ap length same in
    omega arith

pub declared_listed : (n : ℕ) (ls : List Line) → All (◌< n) (named_in ls) → All (◌< n) (map its (declared_in ls))
unfolding named_in declared_in
declared_listed n [] none = none
declared_listed n (abducible start a ∷ more) (each h hs) = each h (declared_listed n more hs)
declared_listed n (rule start head body ∷ more) (each h hs) = declared_listed n more (all_split (atoms_of body) (named_in more) hs).1
declared_listed n (integrity start body ∷ more) h = declared_listed n more (all_split (atoms_of body) (named_in more) h).1

pub abducibles_counted : (lines : List Line) → length (program_typed lines).abducibles ≡ new_among [] (map its (declared_in lines))
unfolding program_typed
abducibles_counted lines =
    rising_counted (count_of (named_in lines)) (map its (declared_in lines)) (declared_listed (count_of (named_in lines)) lines (count_above (named_in lines)))
