-- What the passes come to: the import's answer, and the file, field after field.
-- Assumes nothing.
use mathlib.Core.Path.{◌≡◌, refl, sym, ap, ◌∙◌}
use mathlib.Core.Bool.{Bool, true, false, cond}
use mathlib.Core.List.{List, [], ◌∷◌, ◌++◌, map}
use Prim.Native.Nat.{ℕ, zero, suc, ◌+◌, ◌*◌, ◌≤◌, ◌<◌}
use native.Mathlib.Decide.{dec_lt, ℕ_discrete}
use native.Mathlib.Omega.{arith}
use borrow.Author.Tests.{eq-eqb, ne_eqb, le-leb, lt-leb}
use lib.Dec.{leb}
use lib.ListN.{length}
use Rattle.std.proofs.Common.{Ok, Err}
use Rattle.papers.specs.Program.{Rule, Program}
use Rattle.papers.specs.Content.{is_among}
use Rattle.papers.specs.Encoding.{encode_numbers, encode_field, encode_run, rule_numbers, encode_file}
use Rattle.papers.specs.Answers.{fields_length}
use Rattle.papers.specs.Valid.{All, none, each, ValidBody, ValidRule, Valid}
use Rattle.papers.proofs.Lists.{all_map, all_each}
use Rattle.papers.proofs.Sizes.{length_file, file_bound}
use Rattle.dual.specs.Bytes.{filled}
use Rattle.text.specs.declared.TextRefusal as answer
use Rattle.text.specs.Told.{refusal_of}
use Rattle.text.specs.Lines.{Reading, accepted, refused, Line, abducible, rule, integrity, lines_of}
use Rattle.text.specs.Typed.{Placed, placed, its, rules_in, integrity_in, named_in, count_of, rising_from, program_typed}
use Rattle.text.specs.Importing.{check_run, import_text}
use Rattle.text.specs.Briefly.{tag_of, start_of, numbers_of}
use Rattle.text.proofs.ReadBack.{imported}
use Rattle.text.proofs.Fitting.{count_above, count_most, text_fits, named_small}
use Rattle.text.proofs.Spacing.{rules_whole}
use Rattle.text.proofs.Passes.{import_refused, import_checks, declared_listed}
use Rattle.importing.specs.declared.ImportError.TheVariants.{Short, Refused}
use Rattle.importing.specs.declared.declaring.Abducibles.{Abducibles}
use Rattle.importing.specs.Imports.{imported_told, import_told, tells, import_after}
use Rattle.importing.specs.Passes.{lines_in, Typed, typed, declared_names, Flagged, flagged_from, list_of, fields_in, contents_in, runs_checked, RunsTell}
use Rattle.importing.specs.Passes.{Within, Sized}
use Rattle.importing.proofs.RisingLaws.{flagged_rising}

-- ---- the fields of each tag

rules_are : (lines : List Line) → fields_in 0x04 lines ≡ rules_in lines
unfolding fields_in rules_in tag_of start_of numbers_of
rules_are [] = refl
rules_are (abducible start a ∷ later) = rules_are later
rules_are (rule start head body ∷ later) = ap (λ (l : List (Placed (List ℕ))). placed start (head ∷ body) ∷ l) (rules_are later)
rules_are (integrity start body ∷ later) = rules_are later

integrity_are : (lines : List Line) → fields_in 0x05 lines ≡ integrity_in lines
unfolding fields_in integrity_in tag_of start_of numbers_of
integrity_are [] = refl
integrity_are (abducible start a ∷ later) = integrity_are later
integrity_are (rule start head body ∷ later) = integrity_are later
integrity_are (integrity start body ∷ later) = ap (λ (l : List (Placed (List ℕ))). placed start body ∷ l) (integrity_are later)

rule_contents : (text : List ℕ) → contents_in 0x04 text ≡ map rule_numbers (typed text).rules
unfolding program_typed
rule_contents text = ap (map its) (rules_are (lines_in text)) ∙ rules_whole (lines_in text)

integrity_contents : (text : List ℕ) → contents_in 0x05 text ≡ (typed text).integrity
unfolding program_typed
integrity_contents text = ap (map its) (integrity_are (lines_in text))

-- ---- the abducibles

rising_under : (names : List ℕ) (least count a : ℕ) → a < least → is_among (rising_from names least count) a ≡ false
unfolding rising_from is_among
rising_under names least zero a h = refl
rising_under names least (suc count) a h = go (is_among names least) (rising_under names (least + 1) count a (omega arith))
  where
    go : (t : Bool) → is_among (rising_from names (least + 1) count) a ≡ false
        → is_among (cond t (least ∷ rising_from names (least + 1) count) (rising_from names (least + 1) count)) a ≡ false
    go true e = rw (ne_eqb least a (omega arith)) e
    go false e = e

rising_among : (names : List ℕ) (least count a : ℕ) → least ≤ a → a < least + count → is_among (rising_from names least count) a ≡ is_among names a
unfolding rising_from is_among
rising_among names least zero a h k = absurd (omega arith)
rising_among names least (suc count) a h k = elim (ℕ_discrete least a) [
  | yes e ↦ go_here (is_among names least) refl e
  | no e ↦ go_later (is_among names least) (rising_among names (least + 1) count a (omega arith) (omega arith)) e
]
  where
    go_here : (t : Bool) → is_among names least ≡ t → least ≡ a
        → is_among (cond t (least ∷ rising_from names (least + 1) count) (rising_from names (least + 1) count)) a ≡ is_among names a
    go_here true f e = rw (eq-eqb least a e) (sym f ∙ ap (is_among names) e)
    go_here false f e = rising_under names (least + 1) count a (omega arith) ∙ sym f ∙ ap (is_among names) e

    go_later : (t : Bool) → is_among (rising_from names (least + 1) count) a ≡ is_among names a → (least ≡ a → ⊥)
        → is_among (cond t (least ∷ rising_from names (least + 1) count) (rising_from names (least + 1) count)) a ≡ is_among names a
    go_later true f e = rw (ne_eqb least a e) f
    go_later false f e = f

rising_over : (names : List ℕ) (least count a : ℕ) → least + count ≤ a → is_among (rising_from names least count) a ≡ false
unfolding rising_from is_among
rising_over names least zero a h = refl
rising_over names least (suc count) a h = go (is_among names least) (rising_over names (least + 1) count a (omega arith))
  where
    go : (t : Bool) → is_among (rising_from names (least + 1) count) a ≡ false
        → is_among (cond t (least ∷ rising_from names (least + 1) count) (rising_from names (least + 1) count)) a ≡ false
    go true e = rw (ne_eqb least a (omega arith)) e
    go false e = e

none_over : (n a : ℕ) (names : List ℕ) → All (◌< n) names → n ≤ a → is_among names a ≡ false
unfolding is_among
none_over n a [] none h = refl
none_over n a (x ∷ names) (each p ps) h = rw (ne_eqb x a (omega arith)) (none_over n a names ps h)

same_among : (names : List ℕ) (n a : ℕ) → All (◌< n) names → is_among (rising_from names 0 n) a ≡ is_among names a
same_among names n a h = elim (dec_lt a n) [
  | yes k ↦ rising_among names 0 n a (omega arith) (omega arith)
  | no k ↦ rising_over names 0 n a (omega arith) ∙ sym (none_over n a names h (omega arith))
]

-- The flags of the declared atoms are those of the program's abducibles.
pub flags_are : (text : List ℕ) (flags : List Bool) → Flagged flags (declared_names text) → Flagged flags (typed text).abducibles
unfolding program_typed
flags_are text flags f a =
    let named = named_in (lines_in text) in
    f a ∙ sym (same_among (declared_names text) (count_of named) a (declared_listed (count_of named) (lines_in text) (count_above named)))

pub listed_are : (text : List ℕ) (flags : List Bool) {atoms : ℕ} → atoms ≡ (typed text).atoms → Flagged flags (declared_names text)
    → list_of (flagged_from flags 0 atoms) ≡ list_of (typed text).abducibles
unfolding program_typed
listed_are text flags {atoms} e f =
    ap (λ (n : ℕ). list_of (flagged_from flags 0 n)) e ∙ ap list_of (flagged_rising flags (declared_names text) f 0 (count_of (named_in (lines_in text))))

pub few_atoms_lem : (text : List ℕ) → Typed text → (typed text).atoms ≤ 256
unfolding program_typed
few_atoms_lem text t = count_most (named_in (lines_in text)) (named_small (lines_in text) (text_fits text (lines_in text) t))

-- ---- what importing comes to

module _ (text : List ℕ) (t : Typed text) (few : length (typed text).abducibles ≤ 16) where
  as_checked : import_text text ≡ runs_checked text (accepted (typed text))
  as_checked =
      let n = (typed text).atoms in
      let abducibles = (typed text).abducibles in
      import_checks text (lines_in text) (typed text) t refl
      ∙ (rw (le-leb (length abducibles) 16 few))
      ∙ ap (λ (l : List (Placed (List ℕ))). check_run 0x04 n abducibles 1024 l
      (check_run 0x05 n abducibles 256 (integrity_in (lines_in text)) (accepted (typed text))))
      (sym (rules_are (lines_in text)))
      ∙ ap (λ (l : List (Placed (List ℕ))). check_run 0x04 n abducibles 1024 (fields_in 0x04 (lines_in text))
      (check_run 0x05 n abducibles 256 l (accepted (typed text))))
      (sym (integrity_are (lines_in text)))

  pub runs_pass : {rules integrity : ℕ} → RunsTell text (Ok (rules, integrity)) → import_text text ≡ accepted (typed text)
  runs_pass r = as_checked ∙ r.0 (accepted (typed text))

  pub runs_refuse : (r : answer.TextRefusal) → RunsTell text (Err r) → import_text text ≡ refused (refusal_of r)
  runs_refuse r refuses = as_checked ∙ refuses (accepted (typed text))

-- The file's length, added up.
pub size_is : (text : List ℕ) {rules integrity : ℕ} → RunsTell text (Ok (rules, integrity)) → {list : Abducibles} → list
    ≡ list_of (typed text).abducibles
    → 15 + 2 * list.count + rules + integrity ≡ length (encode_file (typed text))
size_is text r {list} e =
    let c = ap (λ (l : Abducibles). l.count) e in
    let f = length_file (typed text) in
    let a = r.1.0 ∙ ap fields_length (rule_contents text) in
    let b = r.1.1 ∙ ap fields_length (integrity_contents text) in omega arith

pub file_small : (text : List ℕ) → import_text text ≡ accepted (typed text) → length (encode_file (typed text)) ≤ 46895
file_small text e = file_bound (typed text) (imported text (typed text) e).valid

-- ---- the file

rules_within : (n : ℕ) (abducibles : List ℕ) (r : Rule) → ValidRule n abducibles r → Within 17 (rule_numbers r)
rules_within n abducibles r v = record { fits = let f = v.body.few in omega arith }

bodies_within : (n : ℕ) (body : List ℕ) → ValidBody n body → Within 17 body
bodies_within n body v = record { fits = let f = v.few in omega arith }

module _ (text : List ℕ) (e : import_text text ≡ accepted (typed text)) where
  valid : Valid (typed text)
  valid = (imported text (typed text) e).valid

  -- A text that may be imported was read.
  was_read : (o : Reading (List Line)) → lines_of text ≡ o → Typed text
  was_read (accepted lines) q = q ∙ sym (unfold lines_in in rw q)
  was_read (refused r) q = absurd (let z : ◌≡◌ {A = Reading Program} (refused r) (accepted (typed text)) = sym (import_refused text q) ∙ e in
      let k : ◌≡◌ {A = ℕ} 0 1 = cc in omega arith)

  pub sized : Sized text
  sized = record {
    read = was_read (lines_of text) refl;
    rules = rw (rule_contents text) (all_map rule_numbers (rules_within (typed text).atoms (typed text).abducibles) valid.rules);
    integrity = rw (integrity_contents text) (all_each (bodies_within (typed text).atoms) valid.integrity);
  }

  pub few_abducibles_lem : length (typed text).abducibles ≤ 16
  few_abducibles_lem = valid.few_abducibles

  -- Field after field.
  pub as_fields : encode_field 0x01 (1 ∷ []) ++ (encode_field 0x02 (encode_numbers ((typed text).atoms ∷ []))
      ++ (encode_field 0x03 (encode_numbers (typed text).abducibles) ++ (encode_run 0x04 (contents_in 0x04 text)
      ++ (encode_run 0x05 (contents_in 0x05 text) ++ encode_field 0x7F [])))) ≡ encode_file (typed text)
  unfolding encode_file
  as_fields = rw (rule_contents text, integrity_contents text)

-- ---- the answer

module _ (text buffer : List ℕ) where
  pub text_refused : (r : answer.TextRefusal) → import_text text ≡ refused (refusal_of r)
      → (imported_told (Err (Refused r)) ≡ import_told (import_text text) (length buffer)) × (buffer ≡ import_after (import_text text) buffer)
  unfolding imported_told import_told
  text_refused r e = (rw e, rw e)

  module _ (e : import_text text ≡ accepted (typed text)) {size : ℕ} (s : size ≡ length (encode_file (typed text))) where
    pub file_short : length buffer < size
        → (imported_told (Err Short) ≡ import_told (import_text text) (length buffer)) × (buffer ≡ import_after (import_text text) buffer)
    unfolding imported_told import_told
    file_short h =
        let t : leb (length (encode_file (typed text))) (length buffer) ≡ false = lt-leb (length (encode_file (typed text))) (length buffer) (omega arith) in
        (rw (e, t), rw (e, t))

    pub file_written : size ≤ length buffer → (after : List ℕ) → after ≡ filled (encode_file (typed text)) buffer
        → (imported_told (Ok size) ≡ import_told (import_text text) (length buffer)) × (after ≡ import_after (import_text text) buffer)
    unfolding imported_told import_told
    file_written h after w =
        let t : leb (length (encode_file (typed text))) (length buffer) ≡ true = le-leb (length (encode_file (typed text))) (length buffer) (omega arith) in
        (rw (e, t) (ap tells s), rw (e, t) w)
