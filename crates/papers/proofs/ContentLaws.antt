-- Laws of the tests of lengths and contents: each passes exactly where document 01's limits hold. "fits" goes from the limits to the
-- test, "tells" back.
-- Assumes nothing.
use mathlib.Core.Path.{◌≡◌, refl, ap}
use mathlib.Core.Bool.{Bool, true, false, not}
use mathlib.Core.List.{List, [], ◌∷◌, map}
use mathlib.Core.Logic.{inl}
use Prim.Native.Nat.{ℕ, suc, ◌+◌, ◌*◌, ◌/◌, ◌%◌, ◌≤◌, ◌<◌}
use native.Mathlib.Omega.{arith}
use borrow.Author.Tests.{eqb-true, leb-true, ltb-true, eq-eqb, ne_eqb, le-leb, lt-ltb, le-ltb, not-true}
use lib.Dec.{eqb, leb, ltb}
use lib.ListN.{length}
use Rattle.literals.specs.BodyLiterals.{body_literal, body_listed}
use Rattle.literals.proofs.BodyLaws.{body_listed_fits, body_listed_tells}
use Rattle.papers.specs.Program.{Rule}
use Rattle.papers.specs.Outcome.{check}
use Rattle.papers.specs.Field.{fewest, most, length_allowed}
use Rattle.papers.specs.Content.{edition_fault, atoms_fault, abducibles_fault, literal_allowed, literals_fault, is_among, rule_fault, body_fault}
use Rattle.papers.specs.Encoding.{rule_numbers}
use Rattle.papers.specs.Reading.{rule_of}
use Rattle.papers.specs.Valid.{All, Rising, InBody, ValidBody, ValidRule}
use Rattle.papers.specs.Valid.{All.none as nothing, All.each as each, Rising.none as flat, Rising.next as above}
use Rattle.papers.proofs.Checks.{both, checked}
use Rattle.papers.proofs.RunLaws.{GoodContent}
use Rattle.papers.proofs.Lists.{all_map, all_each, map_undone}

-- ---- the edition, the atom count

pub edition_fits : (value : ℕ) → value ≡ 1 → edition_fault value ≡ 0
unfolding edition_fault
edition_fits value e = rw (eq-eqb _ _ e)

pub edition_tells : (value : ℕ) → edition_fault value ≡ 0 → value ≡ 1
unfolding edition_fault
edition_tells value e = eqb-true _ _ (checked (eqb value 1) 3 _ e).0

pub atoms_fit : (n : ℕ) → 1 ≤ n → n ≤ 256 → atoms_fault n ≡ 0
unfolding atoms_fault
atoms_fit n a b = rw (le-leb _ _ a, le-leb _ _ b)

pub atoms_tell : (n : ℕ) → atoms_fault n ≡ 0 → (1 ≤ n) × (n ≤ 256)
unfolding atoms_fault
atoms_tell n e =
    let a = checked (leb 1 n) 4 _ e in
    let b = checked (leb n 256) 4 _ a.1 in
    (leb-true _ _ a.0, leb-true _ _ b.0)

-- ---- literals, abducibles

module _ (in_body : Bool) (n : ℕ) {May : ℕ → Type 0} where
  each_fits : ((l : ℕ) → May l → literal_allowed in_body n l ≡ true) → {ls : List ℕ} → All May ls → literals_fault in_body n ls ≡ 0
  unfolding literals_fault
  each_fits fits nothing = refl
  each_fits fits (each {a = l} h rest) = rw (fits l h) (each_fits fits rest)

  each_tells : ((l : ℕ) → literal_allowed in_body n l ≡ true → May l) → (ls : List ℕ) → literals_fault in_body n ls ≡ 0 → All May ls
  unfolding literals_fault
  each_tells tells [] e = nothing
  each_tells tells (l ∷ more) e =
      let a = checked (literal_allowed in_body n l) 5 _ e in
      each (tells l a.0) (each_tells tells more a.1)

-- Those of a query,
pub literals_fit : (n : ℕ) (ls : List ℕ) → All (◌< 4 * n) ls → literals_fault false n ls ≡ 0
unfolding literal_allowed
literals_fit n ls = each_fits false n (λ l h. lt-ltb l (4 * n) h)

pub literals_tell : (n : ℕ) (ls : List ℕ) → literals_fault false n ls ≡ 0 → All (◌< 4 * n) ls
unfolding literal_allowed
literals_tell n = each_tells false n (λ l h. ltb-true l (4 * n) h)

-- and those of a body.
pub body_literals_fit : (n : ℕ) (ls : List ℕ) → All (InBody n) ls → literals_fault true n ls ≡ 0
unfolding literal_allowed
body_literals_fit n ls = each_fits true n (body_listed_fits n)

-- A body without u is one.
pub plain_body : (n : ℕ) {ls : List ℕ} → All (◌< 4 * n) ls → All (InBody n) ls
plain_body n = all_each (λ l h. inl h)

pub body_literals_tell : (n : ℕ) (ls : List ℕ) → literals_fault true n ls ≡ 0 → All (InBody n) ls
unfolding literal_allowed
body_literals_tell n = each_tells true n (body_listed_tells n)

pub abducibles_fit : (n least : ℕ) (l : List ℕ) → All (◌< n) l → Rising least l → abducibles_fault n least l ≡ 0
unfolding abducibles_fault
abducibles_fit n least [] nothing flat = refl
abducibles_fit n least (a ∷ more) (each h rest) (above r rising) =
    rw (lt-ltb _ _ h, le-leb _ _ r) (abducibles_fit n (a + 1) more rest rising)

pub abducibles_tell : (n least : ℕ) (l : List ℕ) → abducibles_fault n least l ≡ 0 → All (◌< n) l × Rising least l
unfolding abducibles_fault
abducibles_tell n least [] e = (nothing, flat)
abducibles_tell n least (a ∷ more) e =
    let x = checked (ltb a n) 5 _ e in
    let y = checked (leb least a) 6 _ x.1 in
    let ih = abducibles_tell n (a + 1) more y.1 in
    (each (ltb-true _ _ x.0) ih.0, above (leb-true _ _ y.0) ih.1)

-- ---- where FFFF is refused: "in heads and in the sheet", and FFFE everywhere

module _ (n : ℕ) (few : n ≤ 256) where
  pub head_barred : (abducibles body : List ℕ) → rule_fault n abducibles (0xFFFF ∷ body) ≡ 6
  unfolding rule_fault
  head_barred abducibles body =
      ap (λ (b : Bool). check b 6 (check (not (is_among abducibles (0xFFFF / 2))) 8 (literals_fault true n body))) (le-ltb 0xFFFF (2 * n) (omega arith))

  pub query_barred : (more : List ℕ) → literals_fault false n (0xFFFF ∷ more) ≡ 6
  unfolding literals_fault literal_allowed
  query_barred more = ap (λ (b : Bool). check b 6 (literals_fault false n more)) (le-ltb 0xFFFF (4 * n) (omega arith))

  fffe_unlisted : (in_body : Bool) → literal_allowed in_body n 0xFFFE ≡ false
  unfolding literal_allowed body_listed body_literal
  fffe_unlisted true = le-ltb 0xFFFE (4 * n) (omega arith)
  fffe_unlisted false = le-ltb 0xFFFE (4 * n) (omega arith)

  pub fffe_barred : (in_body : Bool) (more : List ℕ) → literals_fault in_body n (0xFFFE ∷ more) ≡ 6
  unfolding literals_fault
  fffe_barred in_body more = ap (λ (b : Bool). check b 6 (literals_fault in_body n more)) (fffe_unlisted in_body)

-- ---- lengths, by how many numbers a content has

pub length_fits : (tag count : ℕ) → (tag ≡ 1 → ⊥) → fewest tag ≤ count → count ≤ most tag → length_allowed tag (2 * count) ≡ true
unfolding length_allowed
length_fits tag count h a b =
    let even = eq-eqb (2 * count % 2) 0 (omega arith) in
    rw (ne_eqb tag 1 h, even, le-leb (2 * fewest tag) (2 * count) (omega arith), le-leb (2 * count) (2 * most tag) (omega arith))

pub length_tells : (tag count : ℕ) → (tag ≡ 1 → ⊥) → length_allowed tag (2 * count) ≡ true → (fewest tag ≤ count) × (count ≤ most tag)
unfolding length_allowed
length_tells tag count h e =
    let t = both _ _ (rw (ne_eqb tag 1 h, eq-eqb (2 * count % 2) 0 (omega arith)) at e) in
    let a = leb-true (2 * fewest tag) (2 * count) t.0 in
    let b = leb-true (2 * count) (2 * most tag) t.1 in
    (omega arith, omega arith)

-- ---- integrity rules and rules

module _ (n : ℕ) (abducibles : List ℕ) where
  pub body_fits : (body : List ℕ) → ValidBody n body → GoodContent 0x05 n abducibles body
  unfolding body_fault fewest most
  body_fits body v = record {
    fault = body_literals_fit n body v.listed;
    allowed = length_fits 0x05 (length body) (omega arith) (omega arith) v.few;
  }

  pub body_tells : (body : List ℕ) → GoodContent 0x05 n abducibles body → ValidBody n body
  unfolding body_fault fewest most
  body_tells body g = record {
    few = (length_tells 0x05 (length body) (omega arith) g.allowed).1;
    listed = body_literals_tell n body g.fault;
  }

  pub rule_fits : (r : Rule) → ValidRule n abducibles r → GoodContent 0x04 n abducibles (rule_numbers r)
  unfolding body_fault rule_fault fewest most
  rule_fits r v = record {
    fault = rw (lt-ltb _ _ v.listed, v.free) (body_literals_fit n r.body v.body.listed);
    allowed = length_fits 0x04 (length (rule_numbers r)) (omega arith) (omega arith) (omega arith);
  }

  pub rule_tells : (content : List ℕ) → GoodContent 0x04 n abducibles content
      → ValidRule n abducibles (rule_of content) × (rule_numbers (rule_of content) ≡ content)
  unfolding body_fault rule_fault rule_of fewest most
  rule_tells [] g = absurd (let l = length_tells 0x04 0 (omega arith) g.allowed in omega arith)
  rule_tells (head ∷ body) g =
      let l = length_tells 0x04 (suc (length body)) (omega arith) g.allowed in
      let a = checked (ltb head (2 * n)) 5 _ g.fault in
      let b = checked (not (is_among abducibles (head / 2))) 7 _ a.1 in (
        record {
          listed = ltb-true _ _ a.0;
          free = not-true _ b.0;
          body = record { few = omega arith; listed = body_literals_tell n body b.1 };
        },
        refl,
      )

  -- ---- and lists of them

  pub bodies_fit : {bodies : List (List ℕ)} → All (ValidBody n) bodies → All (GoodContent 0x05 n abducibles) bodies
  bodies_fit = all_each body_fits

  pub bodies_tell : {contents : List (List ℕ)} → All (GoodContent 0x05 n abducibles) contents → All (ValidBody n) contents
  bodies_tell = all_each body_tells

  pub rules_fit : {rules : List Rule} → All (ValidRule n abducibles) rules → All (GoodContent 0x04 n abducibles) (map rule_numbers rules)
  rules_fit = all_map rule_numbers rule_fits

  pub rules_tell : {contents : List (List ℕ)} → All (GoodContent 0x04 n abducibles) contents → All (ValidRule n abducibles) (map rule_of contents)
  rules_tell = all_map rule_of (λ content g. (rule_tells content g).0)

  -- A rule's numbers are those of the rule that they make, and the other way round.
  pub numbers_back : {contents : List (List ℕ)} → All (GoodContent 0x04 n abducibles) contents → map rule_numbers (map rule_of contents) ≡ contents
  numbers_back = map_undone rule_of rule_numbers (λ content g. (rule_tells content g).1)

  pub rules_back : {rules : List Rule} → All (ValidRule n abducibles) rules → map rule_of (map rule_numbers rules) ≡ rules
  unfolding rule_of
  rules_back = map_undone rule_numbers rule_of (λ r v. refl)
