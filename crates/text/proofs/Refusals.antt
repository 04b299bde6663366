-- A text is refused by 17 or 18, or by 3, 8 or 9, and by no other number.
-- Assumes nothing.
use mathlib.Core.Path.{◌≡◌, refl}
use mathlib.Core.Bool.{Bool, true, false, not}
use mathlib.Core.List.{List, [], ◌∷◌, map}
use Prim.Native.Nat.{ℕ, zero, suc, ◌*◌, ◌/◌}
use native.Mathlib.Omega.{arith}
use borrow.Author.Tests.{ne_eqb}
use lib.ListN.{length}
use Rattle.papers.specs.Program.{Program}
use Rattle.papers.specs.Outcome.{check}
use Rattle.papers.specs.Field.{length_allowed}
use Rattle.papers.specs.Content.{body_fault, is_among, atoms_fault, abducibles_fault}
use Rattle.papers.specs.Valid.{All, none, each}
use Rattle.text.specs.Lines.{TextRefusal}
use Rattle.text.specs.Tokens.{Tokens, token, stray, end}
use Rattle.text.specs.Lines.{Reading, accepted, refused, passing, and_then, Line, State, fresh, declaring, declared, negated, headed, due, denied}
use Rattle.text.specs.Lines.{negated_in, denied_negated, said, Step, goes, ends, bars, follow, step, lines_from, lines_of}
use Rattle.text.specs.Typed.{Placed, its, declared_in, rules_in, integrity_in, program_typed}
use Rattle.text.specs.Importing.{heading_fault, overfull_at, check_run, check_typed, import_text}
use Rattle.text.proofs.ReadBack.{heading_is}
use Rattle.text.proofs.Fitting.{RuleChecked, TypedFits, typed_fits}

abbrev Known : ℕ → Type 0
Known n = is_among (3 ∷ 8 ∷ 9 ∷ 17 ∷ 18 ∷ []) n ≡ true

-- A check's number: none, or one of these.
abbrev Fine : ℕ → Type 0
Fine n = is_among (0 ∷ 3 ∷ 8 ∷ 9 ∷ 17 ∷ 18 ∷ []) n ≡ true

no_acceptance : {A X : Type 0} {r : TextRefusal} {a : A} → accepted a ≡ refused r → X
no_acceptance e = absurd (let z : ◌≡◌ {A = ℕ} 0 1 = cc in omega arith)

same_number : {A : Type 0} {x r : TextRefusal} → ◌≡◌ {A = Reading A} (refused x) (refused r) → Known x.number → Known r.number
same_number {x = x} {r = r} e h = let q : x ≡ r = cc in rw (← q) h

passing_known : {A : Type 0} (n place : ℕ) (next : Reading A) (r : TextRefusal) → Fine n → (next ≡ refused r → Known r.number)
    → passing n place next ≡ refused r → Known r.number
passing_known zero place next r f h e = h e
passing_known (suc n) place next r f h e = same_number e (unfold is_among in rw (ne_eqb 0 (suc n) (omega arith)) at f)

-- ---- reading lines

end_known : (s : State) (place : ℕ) (r : TextRefusal) → lines_from s (end place) ≡ refused r → Known r.number
unfolding lines_from is_among
end_known fresh place r e = no_acceptance e
end_known (declaring start) place r e = same_number e refl
end_known (declared line) place r e = same_number e refl
end_known (negated start) place r e = same_number e refl
end_known (headed line) place r e = same_number e refl
end_known (due line) place r e = same_number e refl
end_known (denied line) place r e = same_number e refl
end_known (negated_in line) place r e = same_number e refl
end_known (denied_negated line) place r e = same_number e refl
end_known (said line) place r e = same_number e refl

then_known : {A B : Type 0} (o : Reading A) (next : A → Reading B) (r : TextRefusal) → (o ≡ refused r → Known r.number)
    → ((a : A) → o ≡ accepted a → next a ≡ refused r → Known r.number) → and_then o next ≡ refused r → Known r.number
then_known (accepted a) next r f g e = g a refl e
then_known {A} (refused x) next r f g e = let q : x ≡ r = cc in f (λ i. refused (q i))

lines_known : (s : State) (ts : Tokens) (r : TextRefusal) → lines_from s ts ≡ refused r → Known r.number
unfolding lines_from is_among
lines_known s (end place) r e = end_known s place r e
lines_known s (stray place) r e = same_number e refl
lines_known s (token place kind a later) r e = go (step s place kind a) (λ t q. lines_known t later r q) e
  where
    go : (x : Step) → ((t : State) → lines_from t later ≡ refused r → Known r.number) → follow x place (λ next. lines_from next later) ≡ refused r
        → Known r.number
    go (goes t) ih q = ih t q
    go (ends line) ih q = then_known (lines_from fresh later) (λ lines. accepted (line ∷ lines)) r (λ f. ih fresh f) (λ a f g. no_acceptance g) q
    go bars ih q = same_number q refl

-- ---- the file's checks

heading_fine : (tag : ℕ) (full : Bool) (ns : List ℕ) → Fine (heading_fault tag full ns)
unfolding is_among
heading_fine tag full ns = rw (heading_is tag full ns) (go full (length_allowed tag (2 * length ns)))
  where
    go : (a b : Bool) → Fine (check (not a) 9 (check b 3 0))
    go true b = refl
    go false true = refl
    go false false = refl

zero_fine : {n : ℕ} → n ≡ 0 → Fine n
unfolding is_among
zero_fine e = rw e

rule_fine : (n : ℕ) (abducibles content : List ℕ) → RuleChecked n abducibles content → Fine (body_fault 0x04 n abducibles content)
unfolding is_among
rule_fine n abducibles content c = rw c.fault (go (is_among abducibles (c.head / 2)))
  where
    go : (t : Bool) → Fine (check (not t) 8 0)
    go true = refl
    go false = refl

run_known : {A : Type 0} (tag n : ℕ) (abducibles : List ℕ) (room : ℕ) (fs : List (Placed (List ℕ))) (next : Reading A) (r : TextRefusal)
    → All (λ content. Fine (body_fault tag n abducibles content)) (map its fs) → (next ≡ refused r → Known r.number)
    → check_run tag n abducibles room fs next ≡ refused r → Known r.number
unfolding check_run
run_known tag n abducibles zero [] next r none h e = h e
run_known tag n abducibles (suc room) [] next r none h e = h e
run_known tag n abducibles zero (f ∷ later) next r (each g gs) h e =
    passing_known (heading_fault tag true f.it) f.start next r (heading_fine tag true f.it) h e
run_known tag n abducibles (suc room) (f ∷ later) next r (each g gs) h e =
    let rest = check_run tag n abducibles room later next in
    let body = passing_known (body_fault tag n abducibles f.it) f.start rest r g (λ b. run_known tag n abducibles room later next r gs h b) in
    passing_known (heading_fault tag false f.it) f.start _ r (heading_fine tag false f.it) body e

all_fine : {P Q : List ℕ → Type 0} → ((l : List ℕ) → P l → Q l) → (ls : List (List ℕ)) → All P ls → All Q ls
all_fine f [] none = none
all_fine f (l ∷ ls) (each p ps) = each (f l p) (all_fine f ls ps)

typed_known : (lines : List Line) (p : Program) (r : TextRefusal) → TypedFits lines p → check_typed lines p ≡ refused r → Known r.number
unfolding check_typed
typed_known lines p r t e =
    let n = p.atoms in
    let abducibles = p.abducibles in
    let run5 = check_run 0x05 n abducibles 256 (integrity_in lines) (accepted p) in
    let run4 = check_run 0x04 n abducibles 1024 (rules_in lines) run5 in
    let third = passing (abducibles_fault n 0 abducibles) 0 run4 in
    let second = passing (heading_fault 0x03 false abducibles) (overfull_at 16 [] (declared_in lines)) third in
    passing_known (atoms_fault n) 0 second r (zero_fine t.atoms)
    (passing_known (heading_fault 0x03 false abducibles) (overfull_at 16 [] (declared_in lines)) third r (heading_fine 0x03 false abducibles)
    (passing_known (abducibles_fault n 0 abducibles) 0 run4 r (zero_fine t.abducibles)
    (run_known 0x04 n abducibles 1024 (rules_in lines) run5 r (all_fine (rule_fine n abducibles) (map its (rules_in lines)) t.rules)
    (run_known 0x05 n abducibles 256 (integrity_in lines) (accepted p) r (all_fine (λ l z. zero_fine z) (map its (integrity_in lines)) t.integrity)
    no_acceptance)))) e

-- Only 3, 8, 9, 17 and 18 refuse a text.
pub only_these : (text : List ℕ) (r : TextRefusal) → import_text text ≡ refused r → is_among (3 ∷ 8 ∷ 9 ∷ 17 ∷ 18 ∷ []) r.number ≡ true
unfolding import_text
only_these text r e =
    then_known (lines_of text) (λ lines. check_typed lines (program_typed lines)) r (lines_known fresh _ r)
    (λ lines read f. typed_known lines (program_typed lines) r (typed_fits text lines read) f) e
