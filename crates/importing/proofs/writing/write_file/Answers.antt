-- `importing::writing::write_file` meets its contract: what is written is the first fields of the file, one more after each call.
use mathlib.Core.Path.{◌≡◌, refl, sym, ap, ◌∙◌}
use mathlib.Core.List.{List, [], ◌∷◌, ◌++◌, append_assoc}
use Prim.Native.Nat.{ℕ, ◌+◌, ◌-◌, ◌≤◌}
use native.Mathlib.Omega.{arith}
use lib.ListN.{length, take, drop, length-append}
use borrow.Rule.Slice.PartMut.{put_mid}
use Rattle.papers.specs.Encoding.{encode_numbers, encode_field, encode_run, encode_file}
use Rattle.papers.proofs.Sizes.{length_field}
use Rattle.papers.proofs.NumberLaws.{length_encoded}
use Rattle.dual.specs.Bytes.{filled}
use Rattle.importing.specs.declared.declaring.Abducibles.{Abducibles}
use Rattle.importing.specs.Passes.{typed, contents_in, Sized}
use Rattle.importing.proofs.RunWriting.{Filling, left_over, filling_more, padded_taken}
use Rattle.importing.proofs.ImportLaws.{few_atoms_lem, sized, few_abducibles_lem, as_fields}
use Rattle.importing.proofs.writing.write_file.Goals as goal
use Rattle.importing.proofs.writing.write_file.Goals.{Start, After-write_edition, After-put_heading, After-numbers, After-write_field-end, After-write_run-end}
use Rattle.importing.proofs.writing.write_file.Goals.{After-write_run-end-2}

-- ---- the fields

module _ (c : Start) where
  abbrev text : List ℕ
  text = c.args.text.now

  abbrev entry : List ℕ
  entry = c.args.buffer.now

  abbrev edition : List ℕ
  edition = encode_field 0x01 (1 ∷ [])

  abbrev atoms : List ℕ
  atoms = encode_field 0x02 (encode_numbers (c.args.atoms ∷ []))

  abbrev abducibles : List ℕ
  abducibles = encode_field 0x03 (encode_numbers (typed text).abducibles)

  abbrev rules : List ℕ
  rules = encode_run 0x04 (contents_in 0x04 text)

  abbrev integrity : List ℕ
  integrity = encode_run 0x05 (contents_in 0x05 text)

  abbrev ending : List ℕ
  ending = encode_field 0x7F []

  file : edition ++ (atoms ++ (abducibles ++ (rules ++ (integrity ++ ending)))) ≡ encode_file (typed text)
  file =
      ap (λ (n : ℕ). edition ++ (encode_field 0x02 (encode_numbers (n ∷ [])) ++ (abducibles ++ (rules ++ (integrity ++ ending))))) c.requires.count
      ∙ as_fields text c.requires.imported

  sizes : (length edition ≡ 4) × (length atoms ≡ 5) × (length ending ≡ 3)
  unfolding encode_field encode_numbers
  sizes = (refl, refl, refl)

  -- There is room for all of them.
  total : 9 + length abducibles + length rules + length integrity + 3 ≤ length entry
  total =
      let all = ap length file in
      let a = length-append edition (atoms ++ (abducibles ++ (rules ++ (integrity ++ ending)))) in
      let b = length-append atoms (abducibles ++ (rules ++ (integrity ++ ending))) in
      let d = length-append abducibles (rules ++ (integrity ++ ending)) in
      let e = length-append rules (integrity ++ ending) in
      let f = length-append integrity ending in
      omega (arith, c.requires.fits, sizes)

  few : length (typed text).abducibles ≤ 16
  few = few_abducibles_lem text c.requires.imported

  read : Sized text
  read = sized text c.requires.imported

  -- The abducibles that are handed on.
  listed : take c.args.abducibles.now.count c.args.abducibles.now.numbers ≡ (typed text).abducibles
  listed =
      ap (λ (l : Abducibles). take l.count l.numbers) c.requires.abducibles
      ∙ padded_taken 17 (typed text).abducibles (let f = few in omega arith)

-- ---- what is written after each call

module _ (c : After-write_edition) where
  filling_1 : Filling (edition (goal.at.After-write_edition c).Start) (entry (goal.at.After-write_edition c).Start) c.write_edition.new.buffer
  filling_1 = let s = (goal.at.After-write_edition c).Start in record { written = c.write_edition.ensures; fits = omega (arith, total s, sizes s) }

pub write_edition-requires : goal.write_edition-requires
write_edition-requires c = omega (arith, total (goal.at.write_edition-requires c).Start)

module _ (c : After-put_heading) where
  abbrev buffer_2 : List ℕ
  buffer_2 = put_mid 4 (length c.write_edition.new.buffer - 4) c.write_edition.new.buffer c.put_heading.new.buffer

  heading : let s = (goal.at.After-put_heading c).Start in
      c.put_heading.new.buffer ≡ filled (atoms s) (take (length c.write_edition.new.buffer - 4) (drop 4 c.write_edition.new.buffer))
  unfolding encode_field encode_numbers
  heading = c.put_heading.ensures

  filling_2 : let s = (goal.at.After-put_heading c).Start in Filling (edition s ++ atoms s) (entry s) buffer_2
  filling_2 =
      let s = (goal.at.After-put_heading c).Start in
      filling_more (filling_1 (goal.at.After-put_heading c).After-write_edition) (sym (sizes s).0) (atoms s) _ heading (omega (arith, total s, sizes s))

  end_2 : let s = (goal.at.After-put_heading c).Start in 9 ≡ length (edition s ++ atoms s)
  end_2 = let s = (goal.at.After-put_heading c).Start in let l = length-append (edition s) (atoms s) in omega (arith, sizes s)

module _ (c : After-numbers) where
  handed : c.numbers.result.now ≡ (typed c.args.text.now).abducibles
  handed = c.numbers.ensures ∙ listed (goal.at.After-numbers c).Start

module _ (c : After-write_field-end) where
  abbrev buffer_3 : List ℕ
  buffer_3 =
      let b = buffer_2 (goal.at.After-write_field-end c).After-put_heading in
      put_mid 9 (length b - 9) b c.write_field-end.new.buffer

  size_3 : c.write_field-end.result ≡ length (abducibles (goal.at.After-write_field-end c).Start)
  size_3 =
      c.write_field-end.ensures.0
      ∙ ap (λ (ns : List ℕ). length (encode_field 0x03 (encode_numbers ns))) (handed (goal.at.After-write_field-end c).After-numbers)

  filling_3 : let s = (goal.at.After-write_field-end c).Start in Filling ((edition s ++ atoms s) ++ abducibles s) (entry s) buffer_3
  filling_3 =
      let s = (goal.at.After-write_field-end c).Start in
      let before = (goal.at.After-write_field-end c).After-put_heading in
      let e = end_2 before in
      filling_more (filling_2 before) e (abducibles s) _
      (rw (handed (goal.at.After-write_field-end c).After-numbers) at c.write_field-end.ensures.1) (omega (arith, total s, e))

  end_3 : let s = (goal.at.After-write_field-end c).Start in 9 + c.write_field-end.result ≡ length ((edition s ++ atoms s) ++ abducibles s)
  end_3 =
      let s = (goal.at.After-write_field-end c).Start in
      let l = length-append (edition s ++ atoms s) (abducibles s) in
      omega (arith, size_3, end_2 (goal.at.After-write_field-end c).After-put_heading)

module _ (c : After-write_run-end) where
  abbrev end : ℕ
  end = 9 + c.write_field-end.result

  abbrev buffer_4 : List ℕ
  buffer_4 =
      let b = buffer_3 (goal.at.After-write_run-end c).After-write_field-end in
      put_mid end (length b - end) b c.write_run-end.new.buffer

  filling_4 : let s = (goal.at.After-write_run-end c).Start in Filling (((edition s ++ atoms s) ++ abducibles s) ++ rules s) (entry s) buffer_4
  filling_4 =
      let s = (goal.at.After-write_run-end c).Start in
      let before = (goal.at.After-write_run-end c).After-write_field-end in
      let e = end_3 before in
      filling_more (filling_3 before) e (rules s) _ c.write_run-end.ensures.1 (omega (arith, total s, e, size_3 before))

  end_4 : let s = (goal.at.After-write_run-end c).Start in
      end + c.write_run-end.result ≡ length (((edition s ++ atoms s) ++ abducibles s) ++ rules s)
  end_4 =
      let s = (goal.at.After-write_run-end c).Start in
      let l = length-append ((edition s ++ atoms s) ++ abducibles s) (rules s) in
      omega (arith, c.write_run-end.ensures.0, end_3 (goal.at.After-write_run-end c).After-write_field-end)

module _ (c : After-write_run-end-2) where
  abbrev end_of_rules : ℕ
  end_of_rules = 9 + c.write_field-end.result + c.write_run-end.result

  abbrev buffer_5 : List ℕ
  buffer_5 =
      let b = buffer_4 (goal.at.After-write_run-end-2 c).After-write_run-end in
      put_mid end_of_rules (length b - end_of_rules) b c.write_run-end-2.new.buffer

  filling_5 : let s = (goal.at.After-write_run-end-2 c).Start in
      Filling ((((edition s ++ atoms s) ++ abducibles s) ++ rules s) ++ integrity s) (entry s) buffer_5
  filling_5 =
      let s = (goal.at.After-write_run-end-2 c).Start in
      let before = (goal.at.After-write_run-end-2 c).After-write_run-end in
      let e = end_4 before in
      let a = size_3 (goal.at.After-write_run-end-2 c).After-write_field-end in
      filling_more (filling_4 before) e (integrity s) _ c.write_run-end-2.ensures.1 (omega (arith, total s, e, a, c.write_run-end.ensures.0))

  end_5 : let s = (goal.at.After-write_run-end-2 c).Start in
      end_of_rules + c.write_run-end-2.result ≡ length ((((edition s ++ atoms s) ++ abducibles s) ++ rules s) ++ integrity s)
  end_5 =
      let s = (goal.at.After-write_run-end-2 c).Start in
      let l = length-append (((edition s ++ atoms s) ++ abducibles s) ++ rules s) (integrity s) in
      omega (arith, c.write_run-end-2.ensures.0, end_4 (goal.at.After-write_run-end-2 c).After-write_run-end)

-- ---- the calls

pub slice_bounds-put_heading-count : goal.slice_bounds-put_heading-count
slice_bounds-put_heading-count c = let s = (goal.at.slice_bounds-put_heading-count c).Start in omega (arith, total s, c.write_edition.auto.buffer)

pub slice_bounds-put_heading-start : goal.slice_bounds-put_heading-start
slice_bounds-put_heading-start c = let s = (goal.at.slice_bounds-put_heading-start c).Start in omega (arith, total s, c.write_edition.auto.buffer)

pub put_heading-requires : goal.put_heading-requires
put_heading-requires c =
    let s = (goal.at.put_heading-requires c).Start in
    let l = left_over (filling_1 (goal.at.put_heading-requires c).After-write_edition) (sym (sizes s).0) in
    (omega (arith, l, total s), (omega arith, omega (arith, few_atoms_lem (text s) (read s).read, c.requires.count)))

pub numbers-requires : goal.numbers-requires
numbers-requires c =
    let count = ap (λ (l : Abducibles). l.count) c.requires.abducibles in
    omega (arith, few (goal.at.numbers-requires c).Start, count)

pub write_field-end-requires : goal.write_field-end-requires
write_field-end-requires c =
    let s = (goal.at.write_field-end-requires c).Start in
    let before = (goal.at.write_field-end-requires c).After-put_heading in
    let l = left_over (filling_2 before) (end_2 before) in
    let count = ap length (handed (goal.at.write_field-end-requires c).After-numbers) in
    let size = length_field 0x03 (encode_numbers (typed (text s)).abducibles) ∙ ap (λ (k : ℕ). 3 + k) (length_encoded (typed (text s)).abducibles) in
    (omega (arith, l, total s), omega (arith, few s))

pub write_run-end-requires : goal.write_run-end-requires
write_run-end-requires c =
    let s = (goal.at.write_run-end-requires c).Start in
    let before = (goal.at.write_run-end-requires c).After-write_field-end in
    let l = left_over (filling_3 before) (end_3 before) in
    record { read = (read s).read; small = (read s).rules; fits = omega (arith, l, total s, size_3 before) }

pub write_run-end-requires-2 : goal.write_run-end-requires-2
write_run-end-requires-2 c =
    let s = (goal.at.write_run-end-requires-2 c).Start in
    let before = (goal.at.write_run-end-requires-2 c).After-write_run-end in
    let l = left_over (filling_4 before) (end_4 before) in
    let a = size_3 (goal.at.write_run-end-requires-2 c).After-write_field-end in
    record { read = (read s).read; small = (read s).integrity; fits = omega (arith, l, total s, a, c.write_run-end.ensures.0) }

pub write_end-requires : goal.write_end-requires
write_end-requires c =
    let s = (goal.at.write_end-requires c).Start in
    let before = (goal.at.write_end-requires c).After-write_run-end-2 in
    let l = left_over (filling_5 before) (end_5 before) in
    let a = size_3 (goal.at.write_end-requires c).After-write_field-end in
    omega (arith, l, total s, a, c.write_run-end.ensures.0, c.write_run-end-2.ensures.0)

pub returns : goal.returns
returns c =
    let s = (goal.at.returns c).Start in
    let before = (goal.at.returns c).After-write_run-end-2 in
    let a = size_3 (goal.at.returns c).After-write_field-end in
    let all = filling_more (filling_5 before) (end_5 before) (ending s) _ c.write_end.ensures
    (omega (arith, total s, sizes s, end_5 before, a, c.write_run-end.ensures.0, c.write_run-end-2.ensures.0)) in
    all.written ∙ ap (λ (x : List ℕ). filled x (entry s)) (simp append_assoc (file s))
