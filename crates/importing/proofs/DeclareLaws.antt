-- The second pass: which atoms were declared, and where there is no more room.
-- Assumes nothing.
use mathlib.Core.Path.{◌≡◌, refl, sym, ap, ◌∙◌}
use mathlib.Core.Bool.{Bool, true, false, not, ◌&&◌, cond, true≢false}
use mathlib.Core.List.{List, [], ◌∷◌, ◌++◌, map, append_assoc, append-nil}
use Prim.Native.Nat.{ℕ, zero, suc, ◌+◌, ◌-◌, ◌≤◌, ◌<◌}
use native.Mathlib.Decide.{ℕ_discrete}
use native.Mathlib.Omega.{arith}
use borrow.Author.Tests.{eq-eqb, ne_eqb, eqb-true, lt-leb}
use lib.Dec.{eqb}
use lib.ListN.{length, get_or, set, length-set, replicate}
use Rattle.papers.specs.Content.{is_among}
use Rattle.papers.specs.Valid.{All, each}
use Rattle.text.specs.declared.line.Brief.{Brief}
use Rattle.text.specs.Lines.{accepted, refused, text_refusal, Line, abducible, rule, integrity, fresh, lines_of}
use Rattle.text.specs.Typed.{Placed, placed, its, declared_in, program_typed}
use Rattle.text.specs.Importing.{overfull_at, import_text}
use Rattle.text.specs.Briefly.{tag_of, tag_byte, start_of, atom_of, brief}
use Rattle.text.specs.LineAnswers.{LineEnds}
use Rattle.text.proofs.BriefLaws.{kind_tag}
use Rattle.text.proofs.Printed.{Printable, abducible_fits}
use Rattle.text.proofs.Fitting.{all_split, text_fits}
use Rattle.text.proofs.Passes.{new_among, import_checks, abducibles_counted}
use Rattle.importing.specs.Passes.{lines_in, Typed, typed, declared_names, new_in, Flagged}
use Rattle.importing.proofs.LinesWalked.{its_append, LinesRead, lines_start, lines_on, lines_split, all_done}

-- ---- one line

pub declared_append : (xs ys : List Line) → declared_in (xs ++ ys) ≡ declared_in xs ++ declared_in ys
unfolding declared_in
declared_append [] ys = refl
declared_append (abducible start a ∷ xs) ys = ap (λ (l : List (Placed ℕ)). placed start a ∷ l) (declared_append xs ys)
declared_append (rule start head body ∷ xs) ys = declared_append xs ys
declared_append (integrity start body ∷ xs) ys = declared_append xs ys

-- What a line declares: its atom, or nothing.
declares : (line : Line) → declared_in (line ∷ []) ≡ cond (eqb (tag_of line) 0x03) (placed (start_of line) (atom_of line) ∷ []) []
unfolding declared_in tag_of start_of atom_of
declares (abducible start a) = refl
declares (rule start head body) = refl
declares (integrity start body) = refl

pub atom_is : (line : Line) → (brief line).atom ≡ atom_of line
unfolding brief
atom_is line = refl

pub start_is : (line : Line) → (brief line).start ≡ start_of line
unfolding brief
start_is line = refl

pub tag_is : (line : Line) → tag_byte (brief line).kind ≡ tag_of line
unfolding brief
tag_is line = kind_tag line

declared_small : (line : Line) → tag_of line ≡ 0x03 → Printable line → atom_of line < 256
unfolding tag_of atom_of
declared_small (abducible start a) e (abducible_fits h) = omega arith
declared_small (rule start head body) e h = absurd (omega arith)
declared_small (integrity start body) e h = absurd (omega arith)

-- ---- flags

set_flag : (flags : List Bool) (a : ℕ) (v : Bool) → a < length flags → (x : ℕ) → get_or (set flags a v) x false ≡ cond (eqb a x) v (get_or flags x false)
set_flag [] a v h x = absurd (omega arith)
set_flag (f ∷ flags) zero v h zero = refl
set_flag (f ∷ flags) zero v h (suc x) = rw (ne_eqb 0 (suc x) (omega arith))
set_flag (f ∷ flags) (suc a) v h zero = rw (ne_eqb (suc a) 0 (omega arith))
set_flag (f ∷ flags) (suc a) v h (suc x) = set_flag flags a v (omega arith) x ∙ ap (λ (t : Bool). cond t v (get_or flags x false)) (sym (eqb_suc a x))
  where
    eqb_suc : (m n : ℕ) → eqb (suc m) (suc n) ≡ eqb m n
    eqb_suc m n = elim (ℕ_discrete m n) [
      | yes e ↦ rw (eq-eqb m n e, eq-eqb (suc m) (suc n) (omega arith))
      | no e ↦ rw (ne_eqb m n e, ne_eqb (suc m) (suc n) (λ q. e (omega arith)))
    ]

flag_more : (flags : List Bool) (a : ℕ) (seen : List ℕ) → a < length flags → Flagged flags seen → Flagged (set flags a true) (a ∷ seen)
unfolding is_among
flag_more flags a seen h f x = set_flag flags a true h x ∙ ap (cond (eqb a x) true) (f x)

-- At first none is set.
pub no_flags : (x : ℕ) → get_or (replicate 256 false) x false ≡ false
no_flags x = none_set 256 x
  where
    none_set : (n x : ℕ) → get_or (replicate n false) x false ≡ false
    none_set zero zero = refl
    none_set zero (suc x) = refl
    none_set (suc n) zero = refl
    none_set (suc n) (suc x) = none_set n x

-- ---- one more name

among_append : (xs : List ℕ) (a x : ℕ) → is_among (xs ++ (a ∷ [])) x ≡ cond (eqb a x) true (is_among xs x)
unfolding is_among
among_append [] a x = refl
among_append (y ∷ xs) a x = ap (cond (eqb y x) true) (among_append xs a x) ∙ swap (eqb y x) (eqb a x) (is_among xs x)
  where
    swap : (t u v : Bool) → cond t true (cond u true v) ≡ cond u true (cond t true v)
    swap true true v = refl
    swap true false v = refl
    swap false true v = refl
    swap false false v = refl

among_cons : (a : ℕ) (seen : List ℕ) (x : ℕ) → is_among (a ∷ seen) x ≡ cond (eqb a x) true (is_among seen x)
unfolding is_among
among_cons a seen x = refl

again_among : (seen : List ℕ) (a x : ℕ) → is_among seen a ≡ true → is_among seen x ≡ cond (eqb a x) true (is_among seen x)
again_among seen a x h = elim (ℕ_discrete a x) [
  | yes e ↦ rw (eq-eqb a x e, ← e) h
  | no e ↦ rw (ne_eqb a x e)
]

-- ---- the loop

pub record Declaring (text : List ℕ) (flags : List Bool) (room at : ℕ) : Type 0 where
  pub done : List Line
  pub walked : LinesRead text done at
  pub seen : List ℕ
  pub size : length flags ≡ 256
  pub flagged : Flagged flags seen
  pub same : (x : ℕ) → is_among seen x ≡ is_among (map its (declared_in done)) x
  pub few : room ≤ 16
  pub counts : (later : List ℕ) → new_among [] (map its (declared_in done) ++ later) ≡ 16 - room + new_among seen later
  pub places : (later : List (Placed ℕ)) → overfull_at 16 [] (declared_in done ++ later) ≡ overfull_at room seen later

pub declare_start : (text : List ℕ) (flags : List Bool) → length flags ≡ 256 → ((x : ℕ) → get_or flags x false ≡ false) → Declaring text flags 16 0
unfolding declared_in is_among
declare_start text flags l f = record {
  done = [];
  walked = lines_start text;
  seen = [];
  size = l;
  flagged = f;
  same = λ x. refl;
  few = omega arith;
  counts = λ later. omega arith;
  places = λ later. refl;
}

-- What a line does to the facts: by whether it declares a new atom.
module _ (seen : List ℕ) (line : Line) where
  names_more : (done : List Line) (later : List ℕ) → map its (declared_in (done ++ (line ∷ []))) ++ later
      ≡ map its (declared_in done) ++ (map its (declared_in (line ∷ [])) ++ later)
  names_more done later =
      ap (λ (l : List (Placed ℕ)). map its l ++ later) (declared_append done (line ∷ []))
      ∙ ap (λ (l : List ℕ). l ++ later) (its_append (declared_in done) (declared_in (line ∷ [])))
      ∙ append_assoc (map its (declared_in done)) (map its (declared_in (line ∷ []))) later

  places_more : (done : List Line) (later : List (Placed ℕ)) → declared_in (done ++ (line ∷ [])) ++ later
      ≡ declared_in done ++ (declared_in (line ∷ []) ++ later)
  places_more done later =
      ap (λ (l : List (Placed ℕ)). l ++ later) (declared_append done (line ∷ [])) ∙ append_assoc (declared_in done) (declared_in (line ∷ [])) later

-- A declaration of an atom that was seen counts for nothing.
overfull_again : (room : ℕ) (seen : List ℕ) (d : Placed ℕ) (later : List (Placed ℕ)) → is_among seen d.it ≡ true → overfull_at room seen (d ∷ later)
    ≡ overfull_at room seen later
unfolding overfull_at
overfull_again zero seen d later e = rw e
overfull_again (suc room) seen d later e = rw e

overfull_new : (room : ℕ) (seen : List ℕ) (d : Placed ℕ) (later : List (Placed ℕ)) → is_among seen d.it ≡ false
    → overfull_at (suc room) seen (d ∷ later) ≡ overfull_at room (d.it ∷ seen) later
unfolding overfull_at
overfull_new room seen d later e = rw e

overfull_here : (seen : List ℕ) (d : Placed ℕ) (later : List (Placed ℕ)) → is_among seen d.it ≡ false → overfull_at 0 seen (d ∷ later) ≡ d.start
unfolding overfull_at
overfull_here seen d later e = rw e

none_new : (seen : List ℕ) → new_among seen [] ≡ 0
unfolding new_among
none_new seen = refl

new_again : (seen : List ℕ) (a : ℕ) (later : List ℕ) → is_among seen a ≡ true → new_among seen (a ∷ later) ≡ new_among seen later
unfolding new_among
new_again seen a later e = rw e

new_here : (seen : List ℕ) (a : ℕ) (later : List ℕ) → is_among seen a ≡ false → new_among seen (a ∷ later) ≡ suc (new_among (a ∷ seen) later)
unfolding new_among
new_here seen a later e = rw e

-- The facts go on over one line, which declares these.
grow : {text : List ℕ} {flags : List Bool} {room at : ℕ} (g : Declaring text flags room at) (line : Line) (after : ℕ)
    → LinesRead text (g.done ++ (line ∷ [])) after → (ds : List (Placed ℕ)) → declared_in (line ∷ []) ≡ ds
    → (more : List Bool) (left : ℕ) (now-seen : List ℕ) → length more ≡ 256 → Flagged more now-seen → left ≤ 16
    → ((x : ℕ) → is_among now-seen x ≡ is_among (map its (declared_in g.done) ++ map its ds) x)
    → ((later : List ℕ) → 16 - room + new_among g.seen (map its ds ++ later) ≡ 16 - left + new_among now-seen later)
    → ((later : List (Placed ℕ)) → overfull_at room g.seen (ds ++ later) ≡ overfull_at left now-seen later)
    → Declaring text more left after
grow g line after w ds d more left now-seen l f few s c p = record {
  done = g.done ++ (line ∷ []);
  walked = w;
  seen = now-seen;
  size = l;
  flagged = f;
  few = few;
  same = λ x.
      s x
      ∙ ap (λ (n : List ℕ). is_among n x)
      (ap (λ (n : List (Placed ℕ)). map its (declared_in g.done) ++ map its n) (sym d) ∙ sym (its_append (declared_in g.done) (declared_in (line ∷ [])))
      ∙ ap (map its) (sym (declared_append g.done (line ∷ []))));
  counts = λ later.
      ap (new_among []) (names_more g.seen line g.done later ∙ ap (λ (n : List (Placed ℕ)). map its (declared_in g.done) ++ (map its n ++ later)) d)
      ∙ g.counts (map its ds ++ later) ∙ c later;
  places = λ later.
      ap (overfull_at 16 []) (places_more g.seen line g.done later ∙ ap (λ (n : List (Placed ℕ)). declared_in g.done ++ (n ++ later)) d)
      ∙ g.places (ds ++ later) ∙ p later;
}

module _ (text : List ℕ) (was : Typed text) {flags : List Bool} {room at : ℕ} (g : Declaring text flags room at) where
  pub declare_over : lines_of text ≡ accepted g.done → Flagged flags (declared_names text) × (length (typed text).abducibles ≤ 16)
  declare_over e =
      let all = all_done text was e in
      let names = ap (λ (l : List Line). map its (declared_in l)) all in
      let counted = abducibles_counted (lines_in text) ∙ ap (new_among []) (names ∙ sym (append-nil (map its (declared_in g.done)))) ∙ g.counts [] in (
        λ a. g.flagged a ∙ g.same a ∙ ap (λ (n : List ℕ). is_among n a) (sym names),
        (let z = none_new g.seen in omega arith),
      )

  module _ {b : Brief} {after : ℕ} (m : LineEnds text fresh at b after) where
    abbrev line : Line
    line = m.line

    abbrev is : b ≡ brief line
    is = m.briefly

    abbrev walked : LinesRead text (g.done ++ (line ∷ [])) after
    walked = lines_on g.walked m

    atom_here : b.atom ≡ atom_of line
    atom_here = ap (λ (x : Brief). x.atom) is ∙ atom_is line

    -- Its atom is below 256, as all of the text's are.
    small : tag_of line ≡ 0x03 → atom_of line < 256
    small t =
        let s = lines_split text was walked in
        let all = rw s.1 at (text_fits text (lines_in text) was) in
        declared_small line t (head_of (all_split g.done (line ∷ []) (all_split (g.done ++ (line ∷ [])) s.0 all).0).1)
      where
        head_of : All Printable (line ∷ []) → Printable line
        head_of (each h hs) = h

    new_is : new_in b flags ≡ eqb (tag_of line) 0x03 && not (is_among g.seen (atom_of line))
    unfolding new_in
    new_is =
        ap (λ (x : ℕ). eqb x 0x03 && not (get_or flags b.atom false)) (ap (λ (x : Brief). tag_byte x.kind) is ∙ tag_is line)
        ∙ ap (λ (x : ℕ). eqb (tag_of line) 0x03 && not (get_or flags x false)) atom_here
        ∙ ap (λ (x : Bool). eqb (tag_of line) 0x03 && not x) (g.flagged (atom_of line))

    -- A line that declares nothing new.
    kept : new_in b flags ≡ false → Declaring text flags room after
    kept n = go (eqb (tag_of line) 0x03) (is_among g.seen (atom_of line)) refl refl (sym new_is ∙ n)
      where
        go : (t u : Bool) → eqb (tag_of line) 0x03 ≡ t → is_among g.seen (atom_of line) ≡ u → t && not u ≡ false → Declaring text flags room after
        go true true t u q =
            let d = declares line ∙ ap (λ (x : Bool). cond x (placed (start_of line) (atom_of line) ∷ []) []) t in
            grow g line after walked (placed (start_of line) (atom_of line) ∷ []) d flags room g.seen g.size g.flagged g.few
            (λ x. again_among g.seen (atom_of line) x u ∙ ap (cond (eqb (atom_of line) x) true) (g.same x)
            ∙ sym (among_append (map its (declared_in g.done)) (atom_of line) x))
            (λ later. ap (λ (k : ℕ). 16 - room + k) (new_again g.seen (atom_of line) later u))
            (λ later. overfull_again room g.seen (placed (start_of line) (atom_of line)) later u)
        go true false t u q = absurd (true≢false q)
        go false u t v q =
            let d = declares line ∙ ap (λ (x : Bool). cond x (placed (start_of line) (atom_of line) ∷ []) []) t in
            grow g line after walked [] d flags room g.seen g.size g.flagged g.few
            (λ x. g.same x ∙ ap (λ (n : List ℕ). is_among n x) (sym (append-nil (map its (declared_in g.done))))) (λ later. refl) (λ later. refl)

    -- One that does.
    module _ (n : new_in b flags ≡ true) where
      news : (tag_of line ≡ 0x03) × (is_among g.seen (atom_of line) ≡ false)
      news = go (eqb (tag_of line) 0x03) (is_among g.seen (atom_of line)) refl refl (sym new_is ∙ n)
        where
          go : (t u : Bool) → eqb (tag_of line) 0x03 ≡ t → is_among g.seen (atom_of line) ≡ u → t && not u ≡ true
              → (tag_of line ≡ 0x03) × (is_among g.seen (atom_of line) ≡ false)
          go true false t u q = (eqb-true (tag_of line) 0x03 t, u)
          go true true t u q = absurd (true≢false (sym q))
          go false u t v q = absurd (true≢false (sym q))

      abbrev here : Placed ℕ
      here = placed (start_of line) (atom_of line)

      declared_here : declared_in (line ∷ []) ≡ here ∷ []
      declared_here = declares line ∙ ap (λ (x : Bool). cond x (here ∷ []) []) (eq-eqb (tag_of line) 0x03 news.0)

      added : (room ≡ 0 → ⊥) → Declaring text (set flags (atom_of line) true) (room - 1) after
      added some =
          let u = news.1 in
          let left : room ≡ suc (room - 1) = omega arith in
          grow g line after walked (here ∷ []) declared_here (set flags (atom_of line) true) (room - 1) (atom_of line ∷ g.seen) (simp length-set g.size)
          (flag_more flags (atom_of line) g.seen (let s = small news.0 in let l = g.size in omega arith) g.flagged) (let f = g.few in omega arith)
          (λ x. among_cons (atom_of line) g.seen x ∙ ap (cond (eqb (atom_of line) x) true) (g.same x)
          ∙ sym (among_append (map its (declared_in g.done)) (atom_of line) x))
          (λ later. let h = new_here g.seen (atom_of line) later u in let f = g.few in omega arith)
          (λ later. ap (λ (k : ℕ). overfull_at k g.seen (here ∷ later)) left ∙ overfull_new (room - 1) g.seen here later u)

      -- There is no more room: the text is refused by 3 at this line.
      overfull : room ≡ 0 → import_text text ≡ refused (text_refusal 3 (start_of line))
      overfull z =
          let s = lines_split text was walked in
          let p = program_typed (lines_in text) in
          let split : declared_in (lines_in text) ≡ declared_in g.done ++ (here ∷ declared_in s.0) =
          ap declared_in s.1 ∙ declared_append (g.done ++ (line ∷ [])) s.0 ∙ places_more g.seen line g.done (declared_in s.0)
          ∙ ap (λ (l : List (Placed ℕ)). declared_in g.done ++ (l ++ declared_in s.0)) declared_here in
          let names = ap (map its) split ∙ its_append (declared_in g.done) (here ∷ declared_in s.0) in
          let counted = abducibles_counted (lines_in text) ∙ ap (new_among []) names ∙ g.counts (atom_of line ∷ map its (declared_in s.0)) in
          let new = new_here g.seen (atom_of line) (map its (declared_in s.0)) news.1 in
          let many : 16 < length p.abducibles = omega arith in
          let place : overfull_at 16 [] (declared_in (lines_in text)) ≡ start_of line =
          ap (overfull_at 16 []) split ∙ g.places (here ∷ declared_in s.0) ∙ ap (λ (k : ℕ). overfull_at k g.seen (here ∷ declared_in s.0)) z
          ∙ overfull_here g.seen here (declared_in s.0) news.1 in
          import_checks text (lines_in text) p was refl ∙ rw (lt-leb (length p.abducibles) 16 many, place)

    -- The code tests the kind, the flag and the room one by one.
    pub other_declared : (tag_byte b.kind ≡ 0x03 → ⊥) → Declaring text flags room after
    unfolding new_in
    other_declared other = kept (rw (ne_eqb (tag_byte b.kind) 0x03 other))

    module _ (own : tag_byte b.kind ≡ 0x03) {a : ℕ} (same : a ≡ b.atom) where
      pub again_declared : get_or flags a false ≡ true → Declaring text flags room after
      unfolding new_in
      again_declared f = kept (rw (eq-eqb (tag_byte b.kind) 0x03 own, ← same, f))

      module _ (f : get_or flags a false ≡ false) where
        is_new : new_in b flags ≡ true
        unfolding new_in
        is_new = rw (eq-eqb (tag_byte b.kind) 0x03 own, ← same, f)

        pub new_declared : (room ≡ 0 → ⊥) → Declaring text (set flags a true) (room - 1) after
        new_declared some =
            let here : atom_of line ≡ a = sym (same ∙ atom_here) in
            rw here at (added is_new some)

        pub none_left : room ≡ 0 → import_text text ≡ refused (text_refusal 3 b.start)
        none_left z = overfull is_new z ∙ ap (λ (x : ℕ). refused (text_refusal 3 x)) (sym (ap (λ (x : Brief). x.start) is ∙ start_is line))
