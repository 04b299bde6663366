-- Every valid program without u has a text that imports as it, where its atom count is one more than the greatest atom named, or 1.
-- Assumes nothing.
use mathlib.Core.Path.{◌≡◌, refl, sym, ap, ◌∙◌}
use mathlib.Core.Bool.{true, false}
use mathlib.Core.List.{List, [], ◌∷◌, ◌++◌, map}
use Prim.Native.Nat.{ℕ, zero, suc, ◌+◌, ◌*◌, ◌/◌, ◌≤◌, ◌<◌}
use native.Mathlib.Omega.{arith}
use native.Mathlib.Decide.{ℕ_discrete}
use borrow.Author.Tests.{eq-eqb, ne_eqb}
use lib.ListN.{length, length-map}
use Rattle.papers.specs.Program.{Rule, Program}
use Rattle.papers.specs.Field.{fewest, most, length_allowed}
use Rattle.papers.specs.Content.{is_among}
use Rattle.papers.specs.Encoding.{rule_numbers}
use Rattle.papers.specs.Valid.{All, Rising, Valid}
use Rattle.papers.specs.Valid.{All.none as nothing, All.each as each, Rising.none as flat, Rising.next as above}
use Rattle.papers.proofs.Lists.{all_map, all_each}
use Rattle.papers.proofs.ContentLaws.{atoms_fit, abducibles_fit, length_fits, bodies_fit, rules_fit, rules_back}
use Rattle.papers.proofs.RunLaws.{GoodContent}
use Rattle.text.specs.Lines.{Reading, accepted, Line, abducible, rule, integrity}
use Rattle.text.specs.Typed.{Placed, its, declared_in, rules_in, integrity_in, atoms_of, named_in, count_of, rising_from, program_typed, Typable}
use Rattle.text.specs.Importing.{heading_fault, check_run, check_typed, import_text}
use Rattle.text.specs.Printing.{rule_line, lines_for, text_of}
use Rattle.text.proofs.ReadBack.{heading_is}
use Rattle.text.proofs.Printed.{bare, Printable, abducible_fits, rule_fits, integrity_fits, lines_printed}

-- ---- what lines type does not depend on their places

declared_bare : (ls : List Line) → map its (declared_in (map bare ls)) ≡ map its (declared_in ls)
unfolding declared_in bare
declared_bare [] = refl
declared_bare (abducible start a ∷ more) = ap (λ (l : List ℕ). a ∷ l) (declared_bare more)
declared_bare (rule start head body ∷ more) = declared_bare more
declared_bare (integrity start body ∷ more) = declared_bare more

rules_bare : (ls : List Line) → map its (rules_in (map bare ls)) ≡ map its (rules_in ls)
unfolding rules_in bare
rules_bare [] = refl
rules_bare (abducible start a ∷ more) = rules_bare more
rules_bare (rule start head body ∷ more) = ap (λ (l : List (List ℕ)). (head ∷ body) ∷ l) (rules_bare more)
rules_bare (integrity start body ∷ more) = rules_bare more

integrity_bare : (ls : List Line) → map its (integrity_in (map bare ls)) ≡ map its (integrity_in ls)
unfolding integrity_in bare
integrity_bare [] = refl
integrity_bare (abducible start a ∷ more) = integrity_bare more
integrity_bare (rule start head body ∷ more) = integrity_bare more
integrity_bare (integrity start body ∷ more) = ap (λ (l : List (List ℕ)). body ∷ l) (integrity_bare more)

named_bare : (ls : List Line) → named_in (map bare ls) ≡ named_in ls
unfolding named_in bare
named_bare [] = refl
named_bare (abducible start a ∷ more) = ap (λ (l : List ℕ). a ∷ l) (named_bare more)
named_bare (rule start head body ∷ more) = ap (λ (l : List ℕ). head / 2 ∷ (atoms_of body ++ l)) (named_bare more)
named_bare (integrity start body ∷ more) = ap (λ (l : List ℕ). atoms_of body ++ l) (named_bare more)

pub typed_bare : (ls : List Line) → program_typed (map bare ls) ≡ program_typed ls
unfolding program_typed
typed_bare ls = rw (declared_bare ls, rules_bare ls, integrity_bare ls, named_bare ls)

-- ---- the lines of a program type its abducibles, rules and integrity rules

declared_rules : (rs : List Rule) (is : List (List ℕ)) → map its (declared_in (map rule_line rs ++ map (integrity 0) is)) ≡ []
unfolding declared_in
declared_rules [] [] = refl
declared_rules [] (i ∷ is) = declared_rules [] is
declared_rules (r ∷ rs) is = declared_rules rs is

declared_for : (xs : List ℕ) (rs : List Rule) (is : List (List ℕ))
    → map its (declared_in (map (abducible 0) xs ++ (map rule_line rs ++ map (integrity 0) is))) ≡ xs
unfolding declared_in
declared_for [] rs is = declared_rules rs is
declared_for (a ∷ xs) rs is = ap (λ (l : List ℕ). a ∷ l) (declared_for xs rs is)

rules_for : (xs : List ℕ) (rs : List Rule) (is : List (List ℕ))
    → map its (rules_in (map (abducible 0) xs ++ (map rule_line rs ++ map (integrity 0) is))) ≡ map rule_numbers rs
unfolding rules_in
rules_for [] [] [] = refl
rules_for [] [] (i ∷ is) = rules_for [] [] is
rules_for [] (r ∷ rs) is = ap (λ (l : List (List ℕ)). rule_numbers r ∷ l) (rules_for [] rs is)
rules_for (a ∷ xs) rs is = rules_for xs rs is

integrity_for : (xs : List ℕ) (rs : List Rule) (is : List (List ℕ))
    → map its (integrity_in (map (abducible 0) xs ++ (map rule_line rs ++ map (integrity 0) is))) ≡ is
unfolding integrity_in
integrity_for [] [] [] = refl
integrity_for [] [] (i ∷ is) = ap (λ (l : List (List ℕ)). i ∷ l) (integrity_for [] [] is)
integrity_for [] (r ∷ rs) is = integrity_for [] rs is
integrity_for (a ∷ xs) rs is = integrity_for xs rs is

-- ---- abducibles that rise are written as they are

below_out : (least x : ℕ) (l : List ℕ) → Rising least l → x < least → is_among l x ≡ false
unfolding is_among
below_out least x [] flat h = refl
below_out least x (a ∷ more) (above r rising) h = rw (ne_eqb a x (omega arith)) (below_out (a + 1) x more rising (omega arith))

raise : (least x : ℕ) (l : List ℕ) → Rising least (x ∷ l) → least < x → Rising (least + 1) (x ∷ l)
raise least x l (above r rising) h = let up : least + 1 ≤ x = omega arith in above {a = x} up rising

tail_all : {n x : ℕ} {l : List ℕ} → All (◌< n) (x ∷ l) → All (◌< n) l
tail_all (each h hs) = hs

tail_rising : {least x : ℕ} {l : List ℕ} → Rising least (x ∷ l) → (least ≤ x) × Rising (x + 1) l
tail_rising (above r rising) = (r, rising)

head_all : {n x : ℕ} {l : List ℕ} → All (◌< n) (x ∷ l) → x < n
head_all (each h hs) = h

rising_same : (count : ℕ) (named : List ℕ) (least : ℕ) (l : List ℕ) → ((x : ℕ) → least ≤ x → is_among named x ≡ is_among l x) → Rising least l
    → All (◌< least + count) l → rising_from named least count ≡ l
unfolding rising_from is_among
rising_same zero named least [] same r all = refl
rising_same zero named least (a ∷ more) same r all = absurd (let x = head_all all in let y = (tail_rising r).0 in omega arith)
rising_same (suc count) named least [] same r all =
    rw (same least (omega arith)) (rising_same count named (least + 1) [] (λ x h. same x (omega arith)) flat nothing)
rising_same (suc count) named least (a ∷ more) same r all = elim (ℕ_discrete a least) [
  | yes q ↦
      let t = tail_rising r in
      let s : least + 1 + count ≡ least + suc count = omega arith in
      let q1 : a + 1 ≡ least + 1 = omega arith in
      let here : is_among named least ≡ true = same least (omega arith) ∙ rw (eq-eqb a least q) in
      let ih = rising_same count named (least + 1) more
      (λ x h. same x (omega arith) ∙ rw (ne_eqb a x (omega arith))) (rw q1 at t.1) (rw s (tail_all all)) in
      rw (here, ih, q)
  | no q ↦
      let t = tail_rising r in
      let s : least + 1 + count ≡ least + suc count = omega arith in
      let here : is_among named least ≡ false = same least (omega arith) ∙ rw (ne_eqb a least q) (below_out (a + 1) least more t.1 (omega arith)) in
      let ih = rising_same count named (least + 1) (a ∷ more) (λ x h. same x (omega arith)) (raise least a more r (omega arith)) (rw s all) in
      rw (here, ih)
]

pub rising_kept : (n : ℕ) (l : List ℕ) → Rising 0 l → All (◌< n) l → rising_from l 0 n ≡ l
rising_kept n l r all = let s : 0 + n ≡ n = omega arith in rising_same n l 0 l (λ x h. refl) r (rw s all)

-- ---- the checks of a valid program pass

run_passes : {A : Type 0} (tag n : ℕ) (abducibles : List ℕ) (room : ℕ) (fs : List (Placed (List ℕ))) (next : Reading A)
    → length fs ≤ room → All (GoodContent tag n abducibles) (map its fs) → check_run tag n abducibles room fs next ≡ next
unfolding check_run
run_passes tag n abducibles zero [] next w nothing = refl
run_passes tag n abducibles (suc room) [] next w nothing = refl
run_passes tag n abducibles zero (f ∷ more) next w (each g gs) = absurd (omega arith)
run_passes tag n abducibles (suc room) (f ∷ more) next w (each g gs) =
    let heading : heading_fault tag false f.it ≡ 0 = heading_is tag false f.it ∙ rw g.allowed in
    let fault = g.fault in
    rw (heading, fault) (run_passes tag n abducibles room more next (omega arith) gs)

pub valid_passes : (lines : List Line) (p : Program) → Valid p → map its (rules_in lines) ≡ map rule_numbers p.rules
    → map its (integrity_in lines) ≡ p.integrity → check_typed lines p ≡ accepted p
unfolding check_typed fewest most
valid_passes lines p v e f =
    let n = p.atoms in
    let abducibles = p.abducibles in
    let long : length_allowed 0x03 (2 * length abducibles) ≡ true = length_fits 0x03 (length abducibles) (omega arith) (omega arith) v.few_abducibles in
    let heading : heading_fault 0x03 false abducibles ≡ 0 = heading_is 0x03 false abducibles ∙ rw long in
    let rules = length-map (rules_in lines) its in
    let rules2 : length (map its (rules_in lines)) ≡ length p.rules = ap length e ∙ length-map p.rules rule_numbers in
    let few = v.few_rules in
    let bodies = length-map (integrity_in lines) its in
    let bodies2 : length (map its (integrity_in lines)) ≡ length p.integrity = ap length f in
    let fewer = v.few_integrity in
    let run5 = check_run 0x05 n abducibles 256 (integrity_in lines) (accepted p) in
    rw (
      atoms_fit n v.some_atoms v.few_atoms,
      heading,
      abducibles_fit n 0 abducibles v.abducibles_listed v.abducibles_rising,
      run_passes 0x04 n abducibles 1024 (rules_in lines) run5 (omega arith) (rw e (rules_fit n abducibles v.rules)),
      run_passes 0x05 n abducibles 256 (integrity_in lines) (accepted p) (omega arith) (rw f (bodies_fit n abducibles v.integrity)),
    )

-- ---- the lines of a valid program have texts

all_append : {A : Type 0} {P : A → Type 0} {xs ys : List A} → All P xs → All P ys → All P (xs ++ ys)
all_append nothing ys = ys
all_append (each p ps) ys = each p (all_append ps ys)

literals_small : (n : ℕ) → n ≤ 256 → {ls : List ℕ} → All (◌< 4 * n) ls → All (◌< 1024) ls
literals_small n h = all_each (λ l k. let k2 : l < 4 * n = k in let g : l < 1024 = omega arith in g)

all_both : {A : Type 0} {P Q : A → Type 0} {xs : List A} → All P xs → All Q xs → All (λ x. P x × Q x) xs
all_both nothing qs = nothing
all_both (each p ps) (each q qs) = each (p, q) (all_both ps qs)

printable : (p : Program) → Valid p → Typable p → All Printable (lines_for p)
unfolding lines_for
printable p v t =
    let n = p.atoms in
    let few = v.few_atoms in
    all_append
    (all_map (abducible 0) (λ a h. let h2 : a < n = h in let g : a ≤ 255 = omega arith in abducible_fits g) v.abducibles_listed)
    (all_append
    (all_map rule_line (λ r w. let l = w.0.listed in let g : r.head < 512 = omega arith in rule_fits g (literals_small n few w.1))
    (all_both v.rules t.rules))
    (all_map (integrity 0) (λ b w. integrity_fits (literals_small n few w)) t.integrity))

-- What a program's lines type is the program, where its atom count is right.
pub typed_for : (p : Program) → Valid p → count_of (named_in (lines_for p)) ≡ p.atoms → program_typed (lines_for p) ≡ p
unfolding program_typed lines_for
typed_for p v e = rw (
  e,
  declared_for p.abducibles p.rules p.integrity,
  rules_for p.abducibles p.rules p.integrity,
  integrity_for p.abducibles p.rules p.integrity,
  rising_kept p.atoms p.abducibles v.abducibles_rising v.abducibles_listed,
  rules_back p.atoms p.abducibles v.rules,
)

-- The round trip: the printed text of a valid program without u imports as it, where its atom count is one more than the greatest atom named, or 1.
pub printed_imports : (p : Program) → Valid p → Typable p → count_of (named_in (lines_for p)) ≡ p.atoms → import_text (text_of p) ≡ accepted p
unfolding import_text text_of
printed_imports p v t e =
    let read = lines_printed 0 (lines_for p) (printable p v t) in
    let found = read.found in
    let is : program_typed found ≡ p = sym (typed_bare found) ∙ ap program_typed read.same ∙ typed_bare (lines_for p) ∙ typed_for p v e in
    let rules : map its (rules_in found) ≡ map rule_numbers p.rules =
    sym (rules_bare found) ∙ ap (λ (ls : List Line). map its (rules_in ls)) read.same ∙ rules_bare (lines_for p)
    ∙ (unfold lines_for in rules_for p.abducibles p.rules p.integrity) in
    let denials : map its (integrity_in found) ≡ p.integrity =
    sym (integrity_bare found) ∙ ap (λ (ls : List Line). map its (integrity_in ls)) read.same ∙ integrity_bare (lines_for p)
    ∙ (unfold lines_for in integrity_for p.abducibles p.rules p.integrity) in
    rw (read.is, is) (valid_passes found p v rules denials)
