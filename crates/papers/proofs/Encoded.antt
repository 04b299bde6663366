-- What is encoded is read: a field, a run of fields, and each paper whole.
-- Assumes nothing.
use mathlib.Core.Path.{◌≡◌, refl, sym, ◌∙◌}
use mathlib.Core.Bool.{true, false}
use mathlib.Core.List.{List, [], ◌∷◌, ◌++◌, map, append-nil, append_assoc}
use Prim.Native.Nat.{ℕ, zero, suc, ◌+◌, ◌*◌, ◌≤◌, ◌<◌}
use native.Mathlib.Omega.{arith}
use borrow.Author.Tests.{eq-eqb, ne_eqb, le-leb}
use lib.ListN.{length, get_or, drop, length-append, length-drop, length-map}
use lib.Seq.{take_at}
use Rattle.papers.specs.declared.Paper.{Paper}
use Rattle.papers.specs.declared.Paper.TheVariants.{File, Sheet}
use Rattle.papers.specs.Program.{Program, Query}
use Rattle.papers.specs.Outcome.{accepted}
use Rattle.papers.specs.Field.{size_of, content_of, fewest, most, length_allowed, field_fault, read_field}
use Rattle.papers.specs.Reading.{run_from, read_edition, read_atoms, read_abducibles, first_rule, read_run, read_end, read_rules, read_file, read_sheet}
use Rattle.papers.specs.Encoding.{encode_numbers, encode_field, encode_run, rule_numbers, encode_file, encode_sheet}
use Rattle.papers.specs.Valid.{All, none, each, Rising, ValidQuery, Valid}
use Rattle.papers.specs.Answers.{fields_length}
use Rattle.papers.proofs.NumberLaws.{numbers_encoded, length_encoded}
use Rattle.papers.proofs.RunLaws.{GoodContent}
use Rattle.papers.proofs.Lists.{drop_after}
use Rattle.papers.proofs.ContentLaws.{edition_fits, atoms_fit, abducibles_fit, literals_fit, length_fits, bodies_fit, rules_fit, rules_back}
use Rattle.papers.proofs.Sizes.{length_field, length_run}

-- ---- one field

module _ (tag : ℕ) (content rest : List ℕ) where
  pub size_encoded : size_of (encode_field tag content ++ rest) ≡ length content
  unfolding size_of encode_field
  size_encoded = omega arith

  fault_encoded : length_allowed tag (length content) ≡ true → field_fault tag false (encode_field tag content ++ rest) ≡ 0
  unfolding field_fault
  fault_encoded a =
      let s = size_encoded in
      let l = length-append (encode_field tag content) rest in
      let f = length_field tag content in
      rw (
        le-leb 3 (length (encode_field tag content ++ rest)) (omega arith),
        size_encoded,
        a,
        eq-eqb (get_or (encode_field tag content ++ rest) 0 0) tag (unfold encode_field in refl),
        le-leb (3 + length content) (length (encode_field tag content ++ rest)) (omega arith),
      )

  pub content_encoded : content_of (encode_field tag content ++ rest) ≡ content
  unfolding content_of
  content_encoded = rw size_encoded (unfold encode_field in take_at content rest (length content) refl)

module _ (tag place : ℕ) (bytes content rest : List ℕ) (e : drop place bytes ≡ encode_field tag content ++ rest) where
  -- A field that is encoded at a place is read,
  pub field_encoded : (paper : Paper) → length_allowed tag (length content) ≡ true → read_field paper tag false place bytes ≡ accepted content
  unfolding read_field
  field_encoded paper a = rw (e, fault_encoded tag content rest a, content_encoded tag content rest)

  -- and the rest stands after it.
  pub after_field : drop (place + 3 + length content) bytes ≡ rest
  after_field =
      let p : place + 3 + length content ≡ place + (3 + length content) = omega arith in
      rw p (drop_after place (3 + length content) bytes (encode_field tag content) rest e (length_field tag content))

-- The same of a field of numbers.
module _ (tag place : ℕ) (bytes ns rest : List ℕ) (e : drop place bytes ≡ encode_field tag (encode_numbers ns) ++ rest) where
  pub numbers_field : (paper : Paper) → length_allowed tag (2 * length ns) ≡ true → read_field paper tag false place bytes ≡ accepted (encode_numbers ns)
  numbers_field paper a = field_encoded tag place bytes (encode_numbers ns) rest e paper (rw length_encoded a)

  pub after_numbers : drop (place + 3 + 2 * length ns) bytes ≡ rest
  after_numbers = rw length_encoded at (after_field tag place bytes (encode_numbers ns) rest e)

-- ---- a run of fields

-- A run of another tag does not begin with this one, if what follows the run does not.
run_begins : (tag other : ℕ) (contents : List (List ℕ)) (rest : List ℕ) → (tag ≡ other → ⊥) → (get_or rest 0 0 ≡ other → ⊥)
    → get_or (encode_run tag contents ++ rest) 0 0 ≡ other → ⊥
unfolding encode_run encode_field
run_begins tag other [] rest h k = k
run_begins tag other (content ∷ more) rest h k = h

module _ (tag n : ℕ) (abducibles bytes : List ℕ) where
  run_none : (room place : ℕ) → (get_or (drop place bytes) 0 0 ≡ tag → ⊥) → read_run tag n abducibles room place bytes ≡ accepted (run_from [] place)
  unfolding read_run
  run_none zero place stop = rw (ne_eqb _ _ stop)
  run_none (suc room) place stop = rw (ne_eqb _ _ stop)

  -- A run that is encoded at a place is read, where there is room for it and what follows does not begin with its tag,
  pub run_encoded : (rest : List ℕ) → (get_or rest 0 0 ≡ tag → ⊥) → (room place : ℕ) (contents : List (List ℕ))
      → drop place bytes ≡ encode_run tag contents ++ rest → length contents ≤ room → All (GoodContent tag n abducibles) contents
      → read_run tag n abducibles room place bytes ≡ accepted (run_from contents (place + fields_length contents))
  unfolding read_run encode_run fields_length
  run_encoded rest stop room place [] e w none =
      let p : place + 0 ≡ place = omega arith in
      rw p (run_none room place (rw e stop))
  run_encoded rest stop zero place (content ∷ more) e w (each g good) = absurd (omega arith)
  run_encoded rest stop (suc room) place (content ∷ more) e w (each g good) =
      let field = encode_field tag (encode_numbers content) in
      let later = encode_run tag more ++ rest in
      let here : drop place bytes ≡ field ++ later = e ∙ append_assoc field (encode_run tag more) rest in
      let first : get_or (drop place bytes) 0 0 ≡ tag = rw here (unfold encode_field in refl) in
      let l : length (encode_numbers content) ≡ 2 * length content = length_encoded content in
      let ih = run_encoded rest stop room (place + 3 + 2 * length content) more (after_numbers tag place bytes content later here) (omega arith) good in
      let p : place + 3 + 2 * length content + fields_length more ≡ place + (3 + 2 * length content + fields_length more) = omega arith in
      rw (eq-eqb _ _ first, numbers_field tag place bytes content later here File g.allowed, numbers_encoded content, g.fault, l, ih, p)

-- and the rest stands after it.
pub after_run : (tag place : ℕ) (bytes : List ℕ) (contents : List (List ℕ)) (rest : List ℕ) → drop place bytes ≡ encode_run tag contents ++ rest
    → drop (place + fields_length contents) bytes ≡ rest
after_run tag place bytes contents rest e = drop_after place (fields_length contents) bytes (encode_run tag contents) rest e (length_run tag contents)

-- ---- the single fields

edition_encoded : (bytes rest : List ℕ) → drop 0 bytes ≡ encode_field 0x01 (1 ∷ []) ++ rest → read_edition bytes ≡ accepted 1
unfolding read_edition length_allowed
edition_encoded bytes rest e = rw (field_encoded 0x01 0 bytes (1 ∷ []) rest e File refl, edition_fits 1 refl)

module _ (n : ℕ) (bytes rest : List ℕ) where
  atoms_encoded : drop 4 bytes ≡ encode_field 0x02 (encode_numbers (n ∷ [])) ++ rest → 1 ≤ n → n ≤ 256 → read_atoms bytes ≡ accepted n
  unfolding read_atoms length_allowed fewest most
  atoms_encoded e a b = rw (numbers_field 0x02 4 bytes (n ∷ []) rest e File refl, numbers_encoded (n ∷ []), atoms_fit n a b)

  abducibles_encoded : (abducibles : List ℕ) → drop 9 bytes ≡ encode_field 0x03 (encode_numbers abducibles) ++ rest → length abducibles ≤ 16
      → All (◌< n) abducibles → Rising 0 abducibles → read_abducibles n bytes ≡ accepted abducibles
  unfolding read_abducibles fewest most
  abducibles_encoded l e w a r =
      rw (numbers_field 0x03 9 bytes l rest e File (length_fits 0x03 (length l) (omega arith) (omega arith) w), numbers_encoded l, abducibles_fit n 0 l a r)

end_encoded : (paper : Paper) (place : ℕ) (bytes : List ℕ) → drop place bytes ≡ encode_field 0x7F [] → read_end paper place bytes ≡ accepted (place + 3)
unfolding read_end length_allowed fewest most
end_encoded paper place bytes e =
    let l = length-drop place bytes in
    let f : length (drop place bytes) ≡ 3 = rw e (unfold encode_field in refl) in
    let whole = e ∙ sym (append-nil (encode_field 0x7F [])) in
    rw (field_encoded 0x7F place bytes [] [] whole paper refl, eq-eqb (length bytes) (place + 3) (omega arith))

-- ---- the papers

pub encoded_accepted : (p : Program) → Valid p → read_file (encode_file p) ≡ accepted p
unfolding read_file read_rules
encoded_accepted p v =
    let n = p.atoms in
    let abducibles = p.abducibles in
    let rules = map rule_numbers p.rules in
    let bytes = encode_file p in
    let end = encode_field 0x7F [] in
    let from5 = encode_run 0x05 p.integrity ++ end in
    let from4 = encode_run 0x04 rules ++ from5 in
    let from3 = encode_field 0x03 (encode_numbers abducibles) ++ from4 in
    let from2 = encode_field 0x02 (encode_numbers (n ∷ [])) ++ from3 in
    let at1 : drop 0 bytes ≡ encode_field 0x01 (1 ∷ []) ++ from2 = unfold encode_file in refl in
    let at2 : drop 4 bytes ≡ from2 = after_field 0x01 0 bytes (1 ∷ []) from2 at1 in
    let at3 : drop 9 bytes ≡ from3 = after_numbers 0x02 4 bytes (n ∷ []) from3 at2 in
    let at4 : drop (first_rule abducibles) bytes ≡ from4 = after_numbers 0x03 9 bytes abducibles from4 at3 in
    let at5 = after_run 0x04 (first_rule abducibles) bytes rules from5 at4 in
    let place5 = first_rule abducibles + fields_length rules in
    let at7F = after_run 0x05 place5 bytes p.integrity end at5 in
    let count = length-map p.rules rule_numbers in
    let stop4 = run_begins 0x05 0x04 p.integrity end (omega arith) (unfold encode_field in omega arith) in
    let stop5 : get_or end 0 0 ≡ 0x05 → ⊥ = unfold encode_field in λ e. omega arith in
    rw (
      edition_encoded bytes from2 at1,
      atoms_encoded n bytes from3 at2 v.some_atoms v.few_atoms,
      abducibles_encoded n bytes from4 abducibles at3 v.few_abducibles v.abducibles_listed v.abducibles_rising,
      run_encoded 0x04 n abducibles bytes from5 stop4 1024 (first_rule abducibles) rules at4 (omega arith) (rules_fit n abducibles v.rules),
      run_encoded 0x05 n abducibles bytes end stop5 256 place5 p.integrity at5 v.few_integrity (bodies_fit n abducibles v.integrity),
      end_encoded File (place5 + fields_length p.integrity) bytes at7F,
      rules_back n abducibles v.rules,
    )

pub sheet_encoded_accepted : (n : ℕ) (q : Query) → ValidQuery n q → read_sheet n (encode_sheet q) ≡ accepted q
unfolding read_sheet fewest most
sheet_encoded_accepted n q v =
    let bytes = encode_sheet q in
    let end = encode_field 0x7F [] in
    let at6 : drop 0 bytes ≡ encode_field 0x06 (encode_numbers q) ++ end = unfold encode_sheet in refl in
    let l = length_encoded q in
    let fits = length_fits 0x06 (length q) (omega arith) (omega arith) v.few in
    rw (
      numbers_field 0x06 0 bytes q end at6 Sheet fits,
      numbers_encoded q,
      literals_fit n q v.listed,
      l,
      end_encoded Sheet (3 + 2 * length q) bytes (after_numbers 0x06 0 bytes q end at6),
    )
