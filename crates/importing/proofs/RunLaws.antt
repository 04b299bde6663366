-- The third and the fourth pass: the checks of one tag's fields.
-- Assumes nothing.
use mathlib.Core.Path.{◌≡◌, refl, sym, ap, ◌∙◌}
use mathlib.Core.Bool.{Bool, true, false, not, ◌&&◌, cond}
use mathlib.Core.List.{List, [], ◌∷◌, ◌++◌, map, append_assoc, append-nil}
use Prim.Native.Nat.{ℕ, zero, suc, ◌+◌, ◌*◌, ◌/◌, ◌%◌, ◌-◌, ◌≤◌, ◌<◌}
use native.Mathlib.Decide.{dec_lt, ℕ_discrete}
use native.Mathlib.Omega.{arith}
use borrow.Author.Tests.{eq-eqb, ne_eqb, lt-ltb, le-ltb, lt-leb, leb-true}
use lib.Dec.{eqb, leb}
use lib.ListN.{length, get_or}
use Rattle.std.proofs.Common.{Ok, Err}
use Rattle.papers.specs.Program.{Program}
use Rattle.papers.specs.Outcome.{check}
use Rattle.papers.specs.Field.{fewest, most, length_allowed}
use Rattle.papers.specs.Content.{is_among, body_fault}
use Rattle.papers.specs.Answers.{fields_length}
use Rattle.papers.specs.Valid.{All, each}
use Rattle.papers.proofs.Checks.{both as and_both}
use Rattle.text.specs.declared.line.Brief.{Brief}
use Rattle.text.specs.Lines.{Reading, accepted, refused, text_refusal, passing, Line, abducible, rule, integrity, fresh, lines_of}
use Rattle.text.specs.Typed.{Placed, placed, its, rules_in, integrity_in, named_in, program_typed}
use Rattle.text.specs.Importing.{check_run}
use Rattle.text.specs.Briefly.{tag_of, tag_byte, start_of, atom_of, numbers_of, few, brief}
use Rattle.text.specs.LineAnswers.{LineEnds}
use Rattle.text.proofs.ReadBack.{heading_is}
use Rattle.text.proofs.BriefLaws.{named_append}
use Rattle.text.proofs.Fitting.{RuleChecked, all_split, rules_checked, integrity_checked, count_above}
use Rattle.text.specs.declared.TextRefusal as answer
use Rattle.importing.specs.Passes.{lines_in, Typed, typed, Flagged, fields_in, fixed_in, line_number, room_after, size_after, RunTells, RunsTell}
use Rattle.importing.proofs.LinesWalked.{its_append, LinesRead, lines_start, lines_on, lines_split, all_done}
use Rattle.importing.proofs.DeclareLaws.{atom_is, start_is, tag_is}

-- ---- one line

pub fields_append : (tag : ℕ) (xs ys : List Line) → fields_in tag (xs ++ ys) ≡ fields_in tag xs ++ fields_in tag ys
unfolding fields_in
fields_append tag [] ys = refl
fields_append tag (line ∷ xs) ys = go (eqb (tag_of line) tag) (fields_append tag xs ys)
  where
    here : Placed (List ℕ)
    here = placed (start_of line) (numbers_of line)

    go : (t : Bool) → fields_in tag (xs ++ ys) ≡ fields_in tag xs ++ fields_in tag ys
        → cond t (here ∷ fields_in tag (xs ++ ys)) (fields_in tag (xs ++ ys)) ≡ cond t (here ∷ fields_in tag xs) (fields_in tag xs) ++ fields_in tag ys
    go true e = ap (λ (l : List (Placed (List ℕ))). here ∷ l) e
    go false e = e

pub field_own : (tag : ℕ) (line : Line) → tag_of line ≡ tag → fields_in tag (line ∷ []) ≡ placed (start_of line) (numbers_of line) ∷ []
unfolding fields_in
field_own tag line e = rw (eq-eqb (tag_of line) tag e)

pub field_other : (tag : ℕ) (line : Line) → (tag_of line ≡ tag → ⊥) → fields_in tag (line ∷ []) ≡ []
unfolding fields_in
field_other tag line h = rw (ne_eqb (tag_of line) tag h)

never : (t : Bool) → t && false ≡ false
never true = refl
never false = refl

too_long : (tag n : ℕ) → 4 ≤ tag → tag ≤ 5 → 18 ≤ n → length_allowed tag (2 * n) ≡ false
unfolding length_allowed most
too_long tag n p q h = elim (ℕ_discrete tag 4) [
  | yes e ↦ rw (e, eq-eqb (2 * n % 2) 0 (omega arith), lt-leb (2 * n) (2 * 17) (omega arith)) (never (leb (2 * fewest 4) (2 * n)))
  | no e ↦
      let f : tag ≡ 5 = omega arith in
      rw (f, eq-eqb (2 * n % 2) 0 (omega arith), lt-leb (2 * n) (2 * 16) (omega arith)) (never (leb (2 * fewest 5) (2 * n)))
]

-- The count, 18 standing for more, passes the test of the length exactly where the numbers do.
allowed_few : (tag n : ℕ) → 4 ≤ tag → tag ≤ 5 → length_allowed tag (2 * few n) ≡ length_allowed tag (2 * n)
unfolding few
allowed_few tag n p q = elim (dec_lt n 18) [
  | yes h ↦ rw (lt-ltb n 18 h)
  | no h ↦ rw (le-ltb n 18 (omega arith)) (too_long tag 18 p q (omega arith) ∙ sym (too_long tag n p q (omega arith)))
]

-- What passes it has at most 17 numbers.
allowed_most : (tag n : ℕ) → 4 ≤ tag → tag ≤ 5 → length_allowed tag (2 * n) ≡ true → n ≤ 17
unfolding length_allowed most
allowed_most tag n p q h = elim (ℕ_discrete tag 4) [
  | yes e ↦ let t = and_both (leb (2 * fewest 4) (2 * n)) (leb (2 * n) (2 * 17)) (rw (e, eq-eqb (2 * n % 2) 0 (omega arith)) at h) in
      let l = leb-true (2 * n) (2 * 17) t.1 in omega arith
  | no e ↦
      let f : tag ≡ 5 = omega arith in
      let t = and_both (leb (2 * fewest 5) (2 * n)) (leb (2 * n) (2 * 16)) (rw (f, eq-eqb (2 * n % 2) 0 (omega arith)) at h) in
      let l = leb-true (2 * n) (2 * 16) t.1 in omega arith
]

pub few_most : (n : ℕ) → few n ≤ 18
unfolding few
few_most n = elim (dec_lt n 18) [
  | yes h ↦ rw (lt-ltb n 18 h) (omega arith)
  | no h ↦ rw (le-ltb n 18 (omega arith)) (omega arith)
]

-- Of a line's content only the head can fail, by 8.
content_fault : (tag n : ℕ) (abducibles : List ℕ) (line : Line) → 4 ≤ tag → tag_of line ≡ tag → All (◌< n) (named_in (line ∷ []))
    → body_fault tag n abducibles (numbers_of line) ≡ check (not (eqb tag 0x04 && is_among abducibles (atom_of line))) 8 0
unfolding tag_of atom_of numbers_of rules_in integrity_in
content_fault tag n abducibles (abducible start a) h e listed = absurd (omega arith)
content_fault tag n abducibles (rule start head body) h e listed =
    rw (← e) (go (rules_checked n abducibles (rule start head body ∷ []) listed))
  where
    go : All (RuleChecked n abducibles) ((head ∷ body) ∷ []) → body_fault 0x04 n abducibles (head ∷ body) ≡ check (not (is_among abducibles (head / 2))) 8 0
    go (each c cs) =
        let same : c.head ≡ head = let i = c.is in cc in
        rw same at c.fault
content_fault tag n abducibles (integrity start body) h e listed =
    rw (← e) (go (integrity_checked n abducibles (integrity start body ∷ []) listed))
  where
    go : All (λ content. body_fault 0x05 n abducibles content ≡ 0) (body ∷ []) → body_fault 0x05 n abducibles body ≡ 0
    go (each c cs) = c

-- ---- the loop

pub record Checking (text : List ℕ) (tag most at room size : ℕ) : Type 0 where
  pub done : List Line
  pub walked : LinesRead text done at
  pub sized : size ≡ fields_length (map its (fields_in tag done))
  pub bound : size + 37 * room ≤ 37 * most
  pub on : (later : List (Placed (List ℕ))) (next : Reading Program)
      → check_run tag (typed text).atoms (typed text).abducibles most (fields_in tag done ++ later) next
      ≡ check_run tag (typed text).atoms (typed text).abducibles room later next

pub check_start : (text : List ℕ) (tag most : ℕ) → Checking text tag most 0 most 0
unfolding fields_in fields_length
check_start text tag most = record { done = []; walked = lines_start text; sized = refl; bound = omega arith; on = λ later next. refl }

lengths_append : (xs ys : List (List ℕ)) → fields_length (xs ++ ys) ≡ fields_length xs + fields_length ys
unfolding fields_length
lengths_append [] ys = omega arith
lengths_append (x ∷ xs) ys = let ih = lengths_append xs ys in omega arith

-- The contents of the lines of a tag, with one line more.
pub contents_more : (tag : ℕ) (done : List Line) (line : Line) {fs : List (Placed (List ℕ))} → fields_in tag (line ∷ []) ≡ fs
    → map its (fields_in tag (done ++ (line ∷ []))) ≡ map its (fields_in tag done) ++ map its fs
contents_more tag done line {fs} e =
    ap (map its) (fields_append tag done (line ∷ [])) ∙ its_append (fields_in tag done) (fields_in tag (line ∷ []))
    ∙ ap (λ (l : List (Placed (List ℕ))). map its (fields_in tag done) ++ map its l) e

module _ (tag n : ℕ) (abducibles : List ℕ) (next : Reading Program) where
  nothing_left : (room : ℕ) → check_run tag n abducibles room [] next ≡ next
  unfolding check_run
  nothing_left zero = refl
  nothing_left (suc room) = refl

  module _ (start : ℕ) (ns : List ℕ) (later : List (Placed (List ℕ))) where
    own_full : check_run tag n abducibles 0 (placed start ns ∷ later) next ≡ refused (text_refusal 9 start)
    unfolding check_run
    own_full = rw (heading_is tag true ns)

    own_step : (room : ℕ) (t u : Bool) → length_allowed tag (2 * length ns) ≡ t → body_fault tag n abducibles ns ≡ check (not u) 8 0
        → check_run tag n abducibles (suc room) (placed start ns ∷ later) next
        ≡ passing (check t 3 0) start (passing (check (not u) 8 0) start (check_run tag n abducibles room later next))
    unfolding check_run
    own_step room t u e f = rw (heading_is tag false ns, e, f)

    own_fails : (room number : ℕ) (t u : Bool) → length_allowed tag (2 * length ns) ≡ t → body_fault tag n abducibles ns ≡ check (not u) 8 0
        → number ≡ check (not (eqb room 0)) 9 (check t 3 (check (not u) 8 0)) → (number ≡ 0 → ⊥)
        → check_run tag n abducibles room (placed start ns ∷ later) next ≡ refused (text_refusal number start)
    own_fails zero number t u e f q h = own_full ∙ ap (λ (k : ℕ). refused (text_refusal k start)) (sym q)
    own_fails (suc room) number t u e f q h = own_step room t u e f ∙ go t u (rw (ne_eqb (suc room) 0 (omega arith)) at q)
      where
        go : (t u : Bool) → number ≡ check t 3 (check (not u) 8 0)
            → passing (check t 3 0) start (passing (check (not u) 8 0) start (check_run tag n abducibles room later next)) ≡ refused (text_refusal number start)
        go true true q = ap (λ (k : ℕ). refused (text_refusal k start)) (sym q)
        go true false q = absurd (h q)
        go false u q = ap (λ (k : ℕ). refused (text_refusal k start)) (sym q)

    own_passes : (room : ℕ) (t u : Bool) → length_allowed tag (2 * length ns) ≡ t → body_fault tag n abducibles ns ≡ check (not u) 8 0
        → 0 ≡ check (not (eqb room 0)) 9 (check t 3 (check (not u) 8 0))
        → (check_run tag n abducibles room (placed start ns ∷ later) next ≡ check_run tag n abducibles (room - 1) later next) × ((0 < room) × (t ≡ true))
    own_passes zero t u e f q = absurd (omega arith)
    own_passes (suc room) t u e f q = go t u (own_step room t u e f) (rw (ne_eqb (suc room) 0 (omega arith)) at q)
      where
        less : suc room - 1 ≡ room
        less = omega arith

        go : (t u : Bool) → check_run tag n abducibles (suc room) (placed start ns ∷ later) next
            ≡ passing (check t 3 0) start (passing (check (not u) 8 0) start (check_run tag n abducibles room later next))
            → 0 ≡ check t 3 (check (not u) 8 0)
            → (check_run tag n abducibles (suc room) (placed start ns ∷ later) next ≡ check_run tag n abducibles (suc room - 1) later next)
            × ((0 < suc room) × (t ≡ true))
        go true true s q = absurd (omega arith)
        go true false s q = (s ∙ ap (λ (k : ℕ). check_run tag n abducibles k later next) (sym less), (omega arith, refl))
        go false u s q = absurd (omega arith)

pub fewer : (k : ℕ) → k ≤ 17 → few k ≡ k
unfolding few
fewer k h = rw (lt-ltb k 18 (omega arith))

one_length : (ns : List ℕ) → fields_length (ns ∷ []) ≡ 3 + 2 * length ns
unfolding fields_length
one_length ns = omega arith

listed_as : (n : ℕ) {xs ys : List ℕ} → xs ≡ ys → All (◌< n) xs → All (◌< n) ys
listed_as n e h = rw e at h

module _ (text : List ℕ) where
  abbrev n : ℕ
  n = (typed text).atoms

  abbrev abducibles : List ℕ
  abducibles = (typed text).abducibles

  module _ (t : Typed text) {tag most : ℕ} {at room size : ℕ} (g : Checking text tag most at room size) where
    pub check_over : lines_of text ≡ accepted g.done → RunTells text tag most (Ok size)
    check_over e =
        let all = all_done text t e in (
          λ next.
              ap (λ (l : List Line). check_run tag n abducibles most (fields_in tag l) next) all
              ∙ ap (λ (l : List (Placed (List ℕ))). check_run tag n abducibles most l next) (sym (append-nil (fields_in tag g.done)))
              ∙ g.on [] next ∙ nothing_left tag n abducibles next room,
          g.sized ∙ ap (λ (l : List Line). fields_length (map its (fields_in tag l))) (sym all),
        )

    module _ (low : 4 ≤ tag) (high : tag ≤ 5) where
      module _ {b : Brief} {after : ℕ} (m : LineEnds text fresh at b after) where
        abbrev line : Line
        line = m.line

        abbrev is : b ≡ brief line
        is = m.briefly

        abbrev walked : LinesRead text (g.done ++ (line ∷ [])) after
        walked = lines_on g.walked m

        tag_here : tag_byte b.kind ≡ tag_of line
        tag_here = ap (λ (x : Brief). tag_byte x.kind) is ∙ tag_is line

        count_here : b.count ≡ few (length (numbers_of line))
        unfolding brief
        count_here = ap (λ (x : Brief). x.count) is

        pub count_small : b.count ≤ 18
        count_small = let f = few_most (length (numbers_of line)) in let c = count_here in omega arith

        -- The line's atoms are below the atom count.
        listed : All (◌< n) (named_in (line ∷ []))
        unfolding program_typed
        listed =
            let s = lines_split text t walked in
            let named = ap named_in s.1 ∙ named_append (g.done ++ (line ∷ [])) s.0 in
            let all = listed_as _ named (count_above (named_in (lines_in text))) in
            let done = (all_split (named_in (g.done ++ (line ∷ []))) (named_in s.0) all).0 in
            (all_split (named_in g.done) (named_in (line ∷ [])) (listed_as _ (named_append g.done (line ∷ [])) done)).1

        -- The fields from here on are the line's and the rest's.
        ahead : (next : Reading Program) → (rest : List Line) × (check_run tag n abducibles most (fields_in tag (lines_in text)) next
            ≡ check_run tag n abducibles room (fields_in tag (line ∷ []) ++ fields_in tag rest) next)
        ahead next =
            let s = lines_split text t walked in
            let fs = ap (fields_in tag) (s.1 ∙ append_assoc g.done (line ∷ []) s.0) ∙ fields_append tag g.done (line ∷ s.0) in
            let one = fields_append tag (line ∷ []) s.0 in (
              s.0,
              ap (λ (l : List (Placed (List ℕ))). check_run tag n abducibles most l next) fs ∙ g.on (fields_in tag (line ∷ s.0)) next
                  ∙ ap (λ (l : List (Placed (List ℕ))). check_run tag n abducibles room l next) one,
            )

        module _ (flags : List Bool) (flagged : Flagged flags abducibles) {number : ℕ} (q : number ≡ line_number b tag room (fixed_in b tag flags)) where
          abbrev fixed : Bool
          fixed = eqb tag 0x04 && is_among abducibles (atom_of line)

          fixed_is : fixed_in b tag flags ≡ fixed
          unfolding fixed_in
          fixed_is =
              ap (λ (x : ℕ). eqb tag 0x04 && get_or flags x false) (ap (λ (x : Brief). x.atom) is ∙ atom_is line)
              ∙ ap (λ (x : Bool). eqb tag 0x04 && x) (flagged (atom_of line))

          number_is : number ≡ cond (eqb (tag_of line) tag)
              (check (not (eqb room 0)) 9 (check (length_allowed tag (2 * length (numbers_of line))) 3 (check (not fixed) 8 0))) 0
          unfolding line_number
          number_is =
              q
              ∙ ap (λ (x : Bool). cond (eqb (tag_byte b.kind) tag)
              (check (not (eqb room 0)) 9 (check (length_allowed tag (2 * b.count)) 3 (check (not x) 8 0))) 0)
              fixed_is
              ∙ ap (λ (x : ℕ). cond (eqb x tag) (check (not (eqb room 0)) 9 (check (length_allowed tag (2 * b.count)) 3 (check (not fixed) 8 0))) 0) tag_here
              ∙ ap (λ (x : Bool). cond (eqb (tag_of line) tag) (check (not (eqb room 0)) 9 (check x 3 (check (not fixed) 8 0))) 0)
              (ap (λ (x : ℕ). length_allowed tag (2 * x)) count_here ∙ allowed_few tag (length (numbers_of line)) low high)

          abbrev checks : Bool → ℕ
          checks own = cond own (check (not (eqb room 0)) 9 (check (length_allowed tag (2 * length (numbers_of line))) 3 (check (not fixed) 8 0))) 0

          pub check_fails : (number ≡ 0 → ⊥) → (next : Reading Program)
              → check_run tag n abducibles most (fields_in tag (lines_in text)) next ≡ refused (text_refusal number b.start)
          check_fails bad next = elim (ℕ_discrete (tag_of line) tag) [
            | yes own ↦
                let a = ahead next in
                let nq = number_is ∙ ap checks (eq-eqb (tag_of line) tag own) in
                a.1 ∙ ap (λ (l : List (Placed (List ℕ))). check_run tag n abducibles room (l ++ fields_in tag a.0) next) (field_own tag line own)
                ∙ own_fails tag n abducibles next (start_of line) (numbers_of line) (fields_in tag a.0) room number
                (length_allowed tag (2 * length (numbers_of line))) fixed refl
                (content_fault tag n abducibles line low own listed) nq bad
                ∙ ap (λ (x : ℕ). refused (text_refusal number x)) (sym (ap (λ (x : Brief). x.start) is ∙ start_is line))
            | no other ↦ absurd (bad (number_is ∙ ap checks (ne_eqb (tag_of line) tag other)))
          ]

          own_passed : tag_of line ≡ tag → number ≡ 0 → (later : List (Placed (List ℕ))) (next : Reading Program)
              → (check_run tag n abducibles room (placed (start_of line) (numbers_of line) ∷ later) next ≡ check_run tag n abducibles (room - 1) later next)
              × ((0 < room) × (length_allowed tag (2 * length (numbers_of line)) ≡ true))
          own_passed own good later next =
              own_passes tag n abducibles next (start_of line) (numbers_of line) later room (length_allowed tag (2 * length (numbers_of line))) fixed refl
              (content_fault tag n abducibles line low own listed) (sym good ∙ number_is ∙ ap checks (eq-eqb (tag_of line) tag own))

          pub check_on : number ≡ 0 → {left total : ℕ} → left ≡ room_after b tag room → total ≡ size_after b tag size → Checking text tag most after left total
          unfolding room_after size_after
          check_on good {left} {total} l s = elim (ℕ_discrete (tag_of line) tag) [
            | yes own ↦
                let same = eq-eqb (tag_byte b.kind) tag (tag_here ∙ own) in
                let passes = own_passed own good in
                let some = (passes [] (accepted (typed text))).1 in
                let short = allowed_most tag (length (numbers_of line)) low high some.1 in
                let count = count_here ∙ fewer (length (numbers_of line)) short in
                let l2 : left ≡ room - 1 = l ∙ ap (λ (x : Bool). cond x (room - 1) room) same in
                let s2 : total ≡ size + (3 + 2 * b.count) = s ∙ ap (λ (x : Bool). cond x (size + (3 + 2 * b.count)) size) same in
                let sum = ap fields_length (contents_more tag g.done line (field_own tag line own))
                ∙ lengths_append (map its (fields_in tag g.done)) (numbers_of line ∷ []) in
                record {
                  done = g.done ++ (line ∷ []);
                  walked = walked;
                  sized = let z = g.sized in let f = one_length (numbers_of line) in omega arith;
                  bound = let z = g.bound in let r = some.0 in omega arith;
                  on = λ later next.
                      ap (λ (x : List (Placed (List ℕ))). check_run tag n abducibles most x next)
                      (ap (λ (x : List (Placed (List ℕ))). x ++ later)
                      (fields_append tag g.done (line ∷ []) ∙ ap (λ (x : List (Placed (List ℕ))). fields_in tag g.done ++ x) (field_own tag line own))
                      ∙ append_assoc (fields_in tag g.done) (placed (start_of line) (numbers_of line) ∷ []) later)
                      ∙ g.on (placed (start_of line) (numbers_of line) ∷ later) next ∙ (passes later next).0
                      ∙ ap (λ (x : ℕ). check_run tag n abducibles x later next) (sym l2);
                }
            | no other ↦
                let apart = ne_eqb (tag_byte b.kind) tag (λ x. other (sym tag_here ∙ x)) in
                let l2 : left ≡ room = l ∙ ap (λ (x : Bool). cond x (room - 1) room) apart in
                let s2 : total ≡ size = s ∙ ap (λ (x : Bool). cond x (size + (3 + 2 * b.count)) size) apart in
                let sum = ap fields_length (contents_more tag g.done line (field_other tag line other) ∙ append-nil (map its (fields_in tag g.done))) in
                record {
                  done = g.done ++ (line ∷ []);
                  walked = walked;
                  sized = let z = g.sized in omega arith;
                  bound = let z = g.bound in omega arith;
                  on = λ later next.
                      ap (λ (x : List (Placed (List ℕ))). check_run tag n abducibles most (x ++ later) next)
                      (fields_append tag g.done (line ∷ [])
                      ∙ ap (λ (x : List (Placed (List ℕ))). fields_in tag g.done ++ x) (field_other tag line other) ∙ append-nil (fields_in tag g.done))
                      ∙ g.on later next ∙ ap (λ (x : ℕ). check_run tag n abducibles x later next) (sym l2);
                }
          ]

        module _ (flags : List Bool) (flagged : Flagged flags abducibles) where
          pub check_own : tag_byte b.kind ≡ tag → 0 ≡ line_number b tag room (fixed_in b tag flags)
              → Checking text tag most after (room - 1) (size + (3 + 2 * b.count))
          unfolding room_after size_after
          check_own own passes = check_on flags flagged passes refl (rw (eq-eqb (tag_byte b.kind) tag own)) (rw (eq-eqb (tag_byte b.kind) tag own))

          pub some_left : tag_byte b.kind ≡ tag → 0 ≡ line_number b tag room (fixed_in b tag flags) → 1 ≤ room
          some_left own passes =
              let p = own_passed flags flagged passes (sym tag_here ∙ own) refl [] (accepted (typed text)) in omega (arith, p.1.0)

          pub check_other : (tag_byte b.kind ≡ tag → ⊥) → Checking text tag most after room size
          unfolding line_number room_after size_after
          check_other other =
              check_on flags flagged {number = 0} (rw (ne_eqb (tag_byte b.kind) tag other)) refl (rw (ne_eqb (tag_byte b.kind) tag other))
              (rw (ne_eqb (tag_byte b.kind) tag other))

-- ---- both runs

module _ (text : List ℕ) where
  pub rules_refuse : (r : answer.TextRefusal) → RunTells text 0x04 1024 (Err r) → RunsTell text (Err r)
  rules_refuse r t next = t _

  module _ {size : ℕ} (rules : RunTells text 0x04 1024 (Ok size)) where
    pub then_refuse : (r : answer.TextRefusal) → RunTells text 0x05 256 (Err r) → RunsTell text (Err r)
    then_refuse r t next = rules.0 _ ∙ t next

    pub then_pass : {more : ℕ} → RunTells text 0x05 256 (Ok more) → RunsTell text (Ok (size, more))
    then_pass t = (λ next. rules.0 _ ∙ t.0 next, (rules.1, t.1))
