-- The checks of what was typed are those of `read_file`: where they refuse by a number, `read_file` refuses the typed program's file by it.
-- Assumes nothing.
use mathlib.Core.Path.{◌≡◌, refl, sym, ap, ◌∙◌}
use mathlib.Core.Bool.{Bool, true, false}
use mathlib.Core.List.{List, [], ◌∷◌, ◌++◌, map, append_assoc}
use Prim.Native.Nat.{ℕ, zero, suc, ◌+◌, ◌*◌}
use native.Mathlib.Omega.{arith}
use borrow.Author.Tests.{eq-eqb, ne_eqb, le-leb}
use lib.ListN.{length, get_or, drop, length-append}
use Rattle.papers.specs.declared.Paper.TheVariants.{File}
use Rattle.papers.specs.Outcome.{Refusal}
use Rattle.papers.specs.Program.{Program}
use Rattle.papers.specs.Outcome.{Outcome, refusal}
use Rattle.papers.specs.Outcome as file
use Rattle.papers.specs.Field.{size_of, fewest, most, length_allowed, field_fault, read_field}
use Rattle.papers.specs.Content.{atoms_fault, abducibles_fault, body_fault}
use Rattle.papers.specs.Encoding.{encode_numbers, encode_field, encode_run, rule_numbers, encode_file}
use Rattle.papers.specs.Reading.{Run, run_from, one_more, read_edition, read_atoms, read_abducibles, first_rule, read_run, read_rules, read_file}
use Rattle.papers.specs.Answers.{fields_length}
use Rattle.papers.proofs.NumberLaws.{numbers_encoded, length_encoded}
use Rattle.papers.proofs.Sizes.{length_field}
use Rattle.papers.proofs.ContentLaws.{edition_fits}
use Rattle.papers.proofs.Encoded.{size_encoded, content_encoded, field_encoded, after_field, after_numbers, after_run}
use Rattle.text.specs.Lines.{TextRefusal}
use Rattle.text.specs.Lines.{Reading, accepted, refused, text_refusal, passing, Line, lines_of}
use Rattle.text.specs.Typed.{Placed, its, declared_in, rules_in, integrity_in, program_typed}
use Rattle.text.specs.Importing.{heading_fault, overfull_at, check_run, check_typed, import_text}
use Rattle.text.proofs.ReadBack.{heading_is}
use Rattle.text.proofs.Fitting.{TypedFits, typed_fits}
use Rattle.text.proofs.Spacing.{rules_whole}

-- ---- one field

fault_typed : (tag : ℕ) (full : Bool) (ns rest : List ℕ) → field_fault tag full (encode_field tag (encode_numbers ns) ++ rest) ≡ heading_fault tag full ns
unfolding field_fault
fault_typed tag full ns rest =
    let content = encode_numbers ns in
    let bytes = encode_field tag content ++ rest in
    let l = length-append (encode_field tag content) rest in
    let f = length_field tag content in
    let n = length_encoded ns in
    let size : size_of bytes ≡ 2 * length ns = size_encoded tag content rest ∙ n in
    rw (
      le-leb 3 (length bytes) (omega arith),
      eq-eqb (get_or bytes 0 0) tag (unfold encode_field in refl),
      size,
      le-leb (3 + 2 * length ns) (length bytes) (omega arith),
    ) (sym (heading_is tag full ns))

field_read : (tag : ℕ) (full : Bool) (place : ℕ) (bytes ns rest : List ℕ) → drop place bytes ≡ encode_field tag (encode_numbers ns) ++ rest
    → read_field File tag full place bytes ≡ file.passing (heading_fault tag full ns) File place (file.accepted (encode_numbers ns))
unfolding read_field
field_read tag full place bytes ns rest e = rw (e, fault_typed tag full ns rest, content_encoded tag (encode_numbers ns) rest)

-- ---- a run of fields

data Agreed (o : Outcome Run) (run : Run) (checks : Reading Program → Reading Program) : Type 0 where
  both_accept : o ≡ file.accepted run → ((next : Reading Program) → checks next ≡ next) → Agreed o run checks
  both_refuse : (k spot start : ℕ) → o ≡ file.refused (refusal k File spot) → ((next : Reading Program) → checks next ≡ refused (text_refusal k start))
      → Agreed o run checks

module _ (tag n : ℕ) (abducibles bytes rest : List ℕ) (stop : get_or rest 0 0 ≡ tag → ⊥) where
  AgreedAt : ℕ → ℕ → List (Placed (List ℕ)) → Type 0
  AgreedAt room place fs =
      Agreed (read_run tag n abducibles room place bytes) (run_from (map its fs) (place + fields_length (map its fs)))
      (λ next. check_run tag n abducibles room fs next)

  run_none : (room place : ℕ) → drop place bytes ≡ rest → read_run tag n abducibles room place bytes ≡ file.accepted (run_from [] (place + 0))
  unfolding read_run
  run_none zero place e = let z : place + 0 ≡ place = omega arith in rw (e, ne_eqb (get_or rest 0 0) tag stop, z)
  run_none (suc room) place e = let z : place + 0 ≡ place = omega arith in rw (e, ne_eqb (get_or rest 0 0) tag stop, z)

  module _ (f : Placed (List ℕ)) (more : List (Placed (List ℕ))) (place : ℕ)
      (here : drop place bytes ≡ encode_field tag (encode_numbers f.it) ++ (encode_run tag (map its more) ++ rest)) where
    first : get_or (drop place bytes) 0 0 ≡ tag
    first = rw here (unfold encode_field in refl)

    it_read : (full : Bool)
        → read_field File tag full place bytes ≡ file.passing (heading_fault tag full f.it) File place (file.accepted (encode_numbers f.it))
    it_read full = field_read tag full place bytes f.it (encode_run tag (map its more) ++ rest) here

    full_refused : read_run tag n abducibles 0 place bytes ≡ file.refused (refusal 9 File place)
    unfolding read_run
    full_refused = rw (eq-eqb (get_or (drop place bytes) 0 0) tag first, it_read true, heading_is tag true f.it)

    heading_refused : (room k : ℕ) → heading_fault tag false f.it ≡ suc k
        → read_run tag n abducibles (suc room) place bytes ≡ file.refused (refusal (suc k) File place)
    unfolding read_run
    heading_refused room k h = rw (eq-eqb (get_or (drop place bytes) 0 0) tag first, it_read false, h)

    body_refused : (room k : ℕ) → heading_fault tag false f.it ≡ 0 → body_fault tag n abducibles f.it ≡ suc k
        → read_run tag n abducibles (suc room) place bytes ≡ file.refused (refusal (suc k) File place)
    unfolding read_run
    body_refused room k h b = rw (eq-eqb (get_or (drop place bytes) 0 0) tag first, it_read false, h, numbers_encoded f.it, b)

    later_read : (room : ℕ) → heading_fault tag false f.it ≡ 0 → body_fault tag n abducibles f.it ≡ 0
        → read_run tag n abducibles (suc room) place bytes
        ≡ file.and_then (read_run tag n abducibles room (place + 3 + 2 * length f.it) bytes) (λ run. file.accepted (one_more f.it run))
    unfolding read_run
    later_read room h b =
        rw (eq-eqb (get_or (drop place bytes) 0 0) tag first, it_read false, h, numbers_encoded f.it, b, length_encoded f.it)

    check_full : (next : Reading Program) → check_run tag n abducibles 0 (f ∷ more) next ≡ refused (text_refusal 9 f.start)
    unfolding check_run
    check_full next = rw (heading_is tag true f.it)

    check_heading : (room k : ℕ) (next : Reading Program) → heading_fault tag false f.it ≡ suc k
        → check_run tag n abducibles (suc room) (f ∷ more) next ≡ refused (text_refusal (suc k) f.start)
    unfolding check_run
    check_heading room k next h = rw h

    check_body : (room k : ℕ) (next : Reading Program) → heading_fault tag false f.it ≡ 0 → body_fault tag n abducibles f.it ≡ suc k
        → check_run tag n abducibles (suc room) (f ∷ more) next ≡ refused (text_refusal (suc k) f.start)
    unfolding check_run
    check_body room k next h b = rw (h, b)

    check_later : (room : ℕ) (next : Reading Program) → heading_fault tag false f.it ≡ 0 → body_fault tag n abducibles f.it ≡ 0
        → check_run tag n abducibles (suc room) (f ∷ more) next ≡ check_run tag n abducibles room more next
    unfolding check_run
    check_later room next h b = rw (h, b)

    one_agreed : (room : ℕ) → AgreedAt room (place + 3 + 2 * length f.it) more → AgreedAt (suc room) place (f ∷ more)
    unfolding AgreedAt fields_length
    one_agreed room ih = go (heading_fault tag false f.it) refl (body_fault tag n abducibles f.it) refl ih
      where
        whole : Type 0
        whole =
            let past = place + (3 + 2 * length f.it + fields_length (map its more)) in
            Agreed (read_run tag n abducibles (suc room) place bytes) (run_from (f.it ∷ map its more) past)
            (λ next. check_run tag n abducibles (suc room) (f ∷ more) next)

        go : (h : ℕ) → heading_fault tag false f.it ≡ h → (b : ℕ) → body_fault tag n abducibles f.it ≡ b
            → Agreed (read_run tag n abducibles room (place + 3 + 2 * length f.it) bytes)
            (run_from (map its more) (place + 3 + 2 * length f.it + fields_length (map its more))) (λ next. check_run tag n abducibles room more next)
            → whole
        go (suc k) h b d ag = both_refuse (suc k) place f.start (heading_refused room k h) (λ next. check_heading room k next h)
        go zero h (suc k) d ag = both_refuse (suc k) place f.start (body_refused room k h d) (λ next. check_body room k next h d)
        go zero h zero d (both_accept o c) =
            let later = fields_length (map its more) in
            let z : place + 3 + 2 * length f.it + later ≡ place + (3 + 2 * length f.it + later) = omega arith in
            both_accept (later_read room h d ∙ rw (o, z)) (λ next. check_later room next h d ∙ c next)
        go zero h zero d (both_refuse k spot start o c) = both_refuse k spot start (later_read room h d ∙ rw o) (λ next. check_later room next h d ∙ c next)

  check_none : (room : ℕ) (next : Reading Program) → check_run tag n abducibles room [] next ≡ next
  unfolding check_run
  check_none zero next = refl
  check_none (suc room) next = refl

  run_agreed : (room place : ℕ) (fs : List (Placed (List ℕ))) → drop place bytes ≡ encode_run tag (map its fs) ++ rest → AgreedAt room place fs
  unfolding AgreedAt encode_run fields_length
  run_agreed zero place [] e = both_accept (run_none 0 place e) (λ next. check_none 0 next)
  run_agreed (suc room) place [] e = both_accept (run_none (suc room) place e) (λ next. check_none (suc room) next)
  run_agreed zero place (f ∷ more) e =
      let here = e ∙ append_assoc (encode_field tag (encode_numbers f.it)) (encode_run tag (map its more)) rest in
      both_refuse 9 place f.start (full_refused f more place here) (λ next. check_full f more place here next)
  run_agreed (suc room) place (f ∷ more) e =
      let here = e ∙ append_assoc (encode_field tag (encode_numbers f.it)) (encode_run tag (map its more)) rest in
      let past = after_numbers tag place bytes f.it (encode_run tag (map its more) ++ rest) here in
      one_agreed f more place here room (run_agreed room (place + 3 + 2 * length f.it) more past)

-- ---- the file

run_begins : (contents : List (List ℕ)) (rest : List ℕ) → (get_or rest 0 0 ≡ 0x04 → ⊥) → get_or (encode_run 0x05 contents ++ rest) 0 0 ≡ 0x04 → ⊥
unfolding encode_run encode_field
run_begins [] rest h = h
run_begins (content ∷ more) rest h = λ e. omega arith

same_number : {A : Type 0} {x y : TextRefusal} → ◌≡◌ {A = Reading A} (refused x) (refused y) → x.number ≡ y.number
same_number {x = x} {y = y} e = let q : x ≡ y = cc in ap (λ (f : TextRefusal). f.number) q

module _ (p : Program) (fs gs : List (Placed (List ℕ))) (spot03 : ℕ) (typed4 : map rule_numbers p.rules ≡ map its fs) (typed5 : p.integrity ≡ map its gs)
    (atomsFine : atoms_fault p.atoms ≡ 0) (abduciblesFine : abducibles_fault p.atoms 0 p.abducibles ≡ 0) where
  abbrev n : ℕ
  n = p.atoms

  abbrev bytes : List ℕ
  bytes = encode_file p

  abbrev from5 : List ℕ
  from5 = encode_run 0x05 (map its gs) ++ encode_field 0x7F []

  abbrev from4 : List ℕ
  from4 = encode_run 0x04 (map its fs) ++ from5

  abbrev from3 : List ℕ
  from3 = encode_field 0x03 (encode_numbers p.abducibles) ++ from4

  abbrev from2 : List ℕ
  from2 = encode_field 0x02 (encode_numbers (n ∷ [])) ++ from3

  at1 : drop 0 bytes ≡ encode_field 0x01 (1 ∷ []) ++ from2
  unfolding encode_file
  at1 = rw (typed4, typed5)

  at2 : drop 4 bytes ≡ from2
  at2 = after_field 0x01 0 bytes (1 ∷ []) from2 at1

  at3 : drop 9 bytes ≡ from3
  at3 = after_numbers 0x02 4 bytes (n ∷ []) from3 at2

  at4 : drop (first_rule p.abducibles) bytes ≡ from4
  at4 = after_numbers 0x03 9 bytes p.abducibles from4 at3

  abbrev rules_end : ℕ
  rules_end = first_rule p.abducibles + fields_length (map its fs)

  at5 : drop rules_end bytes ≡ from5
  at5 = after_run 0x04 (first_rule p.abducibles) bytes (map its fs) from5 at4

  edition_read : read_edition bytes ≡ file.accepted 1
  unfolding read_edition length_allowed
  edition_read = rw (field_encoded 0x01 0 bytes (1 ∷ []) from2 at1 File refl, edition_fits 1 refl)

  atoms_read : read_atoms bytes ≡ file.accepted n
  unfolding read_atoms length_allowed fewest most
  atoms_read = rw (field_read 0x02 false 4 bytes (p.atoms ∷ []) from3 at2, heading_is 0x02 false (p.atoms ∷ []), numbers_encoded (p.atoms ∷ []), atomsFine)

  abducibles_refused : (k : ℕ) → heading_fault 0x03 false p.abducibles ≡ suc k → read_abducibles n bytes ≡ file.refused (refusal (suc k) File 9)
  unfolding read_abducibles
  abducibles_refused k h = rw (field_read 0x03 false 9 bytes p.abducibles from4 at3, h)

  abducibles_read : heading_fault 0x03 false p.abducibles ≡ 0 → read_abducibles n bytes ≡ file.accepted p.abducibles
  unfolding read_abducibles
  abducibles_read h = rw (field_read 0x03 false 9 bytes p.abducibles from4 at3, h, numbers_encoded p.abducibles, abduciblesFine)

  -- The rest of the reading, once the abducibles were read.
  rules_read : heading_fault 0x03 false p.abducibles ≡ 0 → read_file bytes ≡ read_rules n p.abducibles bytes
  unfolding read_file
  rules_read h = rw (edition_read, atoms_read, abducibles_read h)

  first_refused : (k : ℕ) → heading_fault 0x03 false p.abducibles ≡ suc k → read_file bytes ≡ file.refused (refusal (suc k) File 9)
  unfolding read_file
  first_refused k h = rw (edition_read, atoms_read, abducibles_refused k h)

  run4_refused : {r : Refusal} → read_run 0x04 n p.abducibles 1024 (first_rule p.abducibles) bytes ≡ file.refused r
      → read_rules n p.abducibles bytes ≡ file.refused r
  unfolding read_rules
  run4_refused e = rw e

  run5_refused : {r : Refusal} {run : Run} → read_run 0x04 n p.abducibles 1024 (first_rule p.abducibles) bytes ≡ file.accepted run
      → read_run 0x05 n p.abducibles 256 run.next bytes ≡ file.refused r → read_rules n p.abducibles bytes ≡ file.refused r
  unfolding read_rules
  run5_refused e f = rw (e, f)

  file_agreed : {r : TextRefusal}
      → passing (heading_fault 0x03 false p.abducibles) spot03
      (check_run 0x04 n p.abducibles 1024 fs (check_run 0x05 n p.abducibles 256 gs (accepted p))) ≡ refused r
      → (spot : ℕ) × (read_file bytes ≡ file.refused (refusal r.number File spot))
  file_agreed {r} e = go (heading_fault 0x03 false p.abducibles) refl e
    where
      told : (k : ℕ) (spot : ℕ) → k ≡ r.number → read_file bytes ≡ file.refused (refusal k File spot)
          → (spot : ℕ) × (read_file bytes ≡ file.refused (refusal r.number File spot))
      told k spot q f = (spot, rw q at f)

      end_stops : get_or (encode_field 0x7F []) 0 0 ≡ 0x05 → ⊥
      end_stops = unfold encode_field in λ q. omega arith

      rules_stop : get_or from5 0 0 ≡ 0x04 → ⊥
      rules_stop = run_begins (map its gs) (encode_field 0x7F []) (unfold encode_field in λ x. omega arith)

      five : heading_fault 0x03 false p.abducibles ≡ 0
          → read_run 0x04 n p.abducibles 1024 (first_rule p.abducibles) bytes ≡ file.accepted (run_from (map its fs) rules_end)
          → Agreed (read_run 0x05 n p.abducibles 256 rules_end bytes)
          (run_from (map its gs) (rules_end + fields_length (map its gs))) (λ next. check_run 0x05 n p.abducibles 256 gs next)
          → check_run 0x05 n p.abducibles 256 gs (accepted p) ≡ refused r
          → (spot : ℕ) × (read_file bytes ≡ file.refused (refusal r.number File spot))
      five h run4 (both_accept o c) q = absurd (let s = sym (c (accepted p)) ∙ q in let z : ◌≡◌ {A = ℕ} 0 1 = cc in omega arith)
      five h run4 (both_refuse k spot start o c) q = told k spot (same_number (sym (c (accepted p)) ∙ q)) (rules_read h ∙ run5_refused run4 o)

      four : heading_fault 0x03 false p.abducibles ≡ 0
          → Agreed (read_run 0x04 n p.abducibles 1024 (first_rule p.abducibles) bytes)
          (run_from (map its fs) rules_end) (λ next. check_run 0x04 n p.abducibles 1024 fs next)
          → check_run 0x04 n p.abducibles 1024 fs (check_run 0x05 n p.abducibles 256 gs (accepted p)) ≡ refused r
          → (spot : ℕ) × (read_file bytes ≡ file.refused (refusal r.number File spot))
      four h (both_accept o c) q =
          five h o (unfold AgreedAt in run_agreed 0x05 n p.abducibles bytes (encode_field 0x7F []) end_stops 256 rules_end gs at5)
          (sym (c (check_run 0x05 n p.abducibles 256 gs (accepted p))) ∙ q)
      four h (both_refuse k spot start o c) q =
          told k spot (same_number (sym (c (check_run 0x05 n p.abducibles 256 gs (accepted p))) ∙ q)) (rules_read h ∙ run4_refused o)

      go : (h : ℕ) → heading_fault 0x03 false p.abducibles ≡ h
          → passing h spot03 (check_run 0x04 n p.abducibles 1024 fs (check_run 0x05 n p.abducibles 256 gs (accepted p))) ≡ refused r
          → (spot : ℕ) × (read_file bytes ≡ file.refused (refusal r.number File spot))
      go (suc k) h q = told (suc k) 9 (same_number q) (first_refused k h)
      go zero h q =
          four h (unfold AgreedAt in run_agreed 0x04 n p.abducibles bytes from5 rules_stop 1024 (first_rule p.abducibles) fs at4) q

checks : (text : List ℕ) (lines : List Line) {r : TextRefusal} → TypedFits lines (program_typed lines) → lines_of text ≡ accepted lines
    → import_text text ≡ refused r
    → passing (heading_fault 0x03 false (program_typed lines).abducibles) (overfull_at 16 [] (declared_in lines))
    (check_run 0x04 (program_typed lines).atoms (program_typed lines).abducibles 1024 (rules_in lines)
    (check_run 0x05 (program_typed lines).atoms (program_typed lines).abducibles 256 (integrity_in lines) (accepted (program_typed lines)))) ≡ refused r
unfolding import_text check_typed
checks text lines t e f = rw (e, t.atoms, t.abducibles) at f

-- A text whose lines were read is refused by the number by which `read_file` refuses the file of the program that they type.
pub agreed : (text : List ℕ) (lines : List Line) {r : TextRefusal} → lines_of text ≡ accepted lines → import_text text ≡ refused r
    → (spot : ℕ) × (read_file (encode_file (program_typed lines)) ≡ file.refused (refusal r.number File spot))
agreed text lines e f =
    let t = typed_fits text lines e in
    file_agreed (program_typed lines) (rules_in lines) (integrity_in lines) (overfull_at 16 [] (declared_in lines))
    (unfold program_typed in sym (rules_whole lines)) (unfold program_typed in refl) t.atoms t.abducibles (checks text lines t e f)
