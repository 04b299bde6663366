-- The passes that write, as their loops meet them; and the file, field after field.
-- Assumes nothing.
use mathlib.Core.Path.{◌≡◌, refl, sym, ap, ◌∙◌}
use mathlib.Core.Bool.{Bool, true, false, cond}
use mathlib.Core.List.{List, [], ◌∷◌, ◌++◌, map, append_assoc, append-nil}
use Prim.Native.Nat.{ℕ, zero, suc, ◌+◌, ◌-◌, ◌≤◌}
use native.Mathlib.Omega.{arith}
use borrow.Author.Tests.{eq-eqb, ne_eqb}
use lib.Dec.{eqb}
use lib.ListN.{length, take, drop, length-append, length-drop}
use borrow.Rule.Slice.PartMut.{put_mid}
use Rattle.papers.specs.Encoding.{encode_numbers, encode_field, encode_run}
use Rattle.papers.specs.Valid.{All, each}
use Rattle.dual.specs.Bytes.{filled, Fills}
use Rattle.dual.proofs.FilledLaws.{filled_part, put_end}
use Rattle.papers.proofs.NumbersWalked.{to_end}
use Rattle.text.specs.declared.line.Brief.{Brief}
use Rattle.text.specs.Lines.{Reading, accepted, and_then, Line, fresh, lines_of}
use Rattle.text.specs.Typed.{its}
use Rattle.text.specs.Briefly.{tag_of, tag_byte, start_of, numbers_of, brief}
use Rattle.text.specs.LineAnswers.{lines_at, LineEnds}
use Rattle.text.specs.LineNumbers.{padded, NumbersTell}
use Rattle.text.proofs.Readings.{through}
use Rattle.text.proofs.Fitting.{all_split}
use Rattle.importing.specs.Passes.{Typed, fields_in, contents_in, line_bytes, LineFits, LineFills, Within, RunFits}
use Rattle.importing.proofs.LinesWalked.{its_append, LinesRead, lines_start, lines_on, lines_split, all_done}
use Rattle.importing.proofs.DeclareLaws.{tag_is}
use Rattle.importing.proofs.RunLaws.{fields_append, field_own, contents_more, fewer}

-- ---- bytes

-- What is written from where the first bytes end.
pub filled_then : (bytes more entry start part : List ℕ) (end : ℕ) → start ≡ filled bytes entry → end ≡ length bytes → part ≡ filled more (drop end start)
    → take end start ++ part ≡ filled (bytes ++ more) entry
filled_then bytes more entry start part end s e p =
    ap (λ (x : List ℕ). take end start ++ x) p
    ∙ ap (λ (x : List ℕ). take end x ++ filled more (drop end x)) s
    ∙ ap (λ (k : ℕ). take k (filled bytes entry) ++ filled more (drop k (filled bytes entry))) e
    ∙ filled_part bytes more entry

-- The first bytes of a buffer are written, and the rest stands as it did.
pub record Filling (bytes entry buffer : List ℕ) : Type 0 where
  pub written : buffer ≡ filled bytes entry
  pub fits : length bytes ≤ length entry

module _ {bytes entry buffer : List ℕ} (f : Filling bytes entry buffer) where
  pub whole : length buffer ≡ length entry
  whole =
      let l = length-append bytes (drop (length bytes) entry) in
      let d = length-drop (length bytes) entry in
      ap length f.written ∙ (let fits = f.fits in omega arith)

  module _ {end : ℕ} (e : end ≡ length bytes) where
    -- What is left of it, from where they end.
    pub left_over : length (take (length buffer - end) (drop end buffer)) + end ≡ length entry
    left_over = rw (to_end end buffer) (let d = length-drop end buffer in let all = whole in let fits = f.fits in omega arith)

    pub filling_more : (more part : List ℕ) → part ≡ filled more (take (length buffer - end) (drop end buffer))
        → length bytes + length more ≤ length entry → Filling (bytes ++ more) entry (put_mid end (length buffer - end) buffer part)
    filling_more more part p h = record {
      written = put_end end buffer part ∙ filled_then bytes more entry buffer part end f.written e (rw (to_end end buffer) at p);
      fits = let l = length-append bytes more in omega arith;
    }

run_append : (tag : ℕ) (xs ys : List (List ℕ)) → encode_run tag (xs ++ ys) ≡ encode_run tag xs ++ encode_run tag ys
unfolding encode_run
run_append tag [] ys = refl
run_append tag (x ∷ xs) ys =
    ap (λ (l : List ℕ). encode_field tag (encode_numbers x) ++ l) (run_append tag xs ys)
    ∙ sym (append_assoc (encode_field tag (encode_numbers x)) (encode_run tag xs) (encode_run tag ys))

pub padded_taken : (room : ℕ) (ns : List ℕ) → length ns ≤ room → take (length ns) (padded room ns) ≡ ns
unfolding padded
padded_taken zero [] h = refl
padded_taken zero (n ∷ ns) h = absurd (omega arith)
padded_taken (suc room) [] h = refl
padded_taken (suc room) (n ∷ ns) h = ap (λ (l : List ℕ). n ∷ l) (padded_taken room ns (omega arith))

-- ---- one line

line_own : (tag : ℕ) (line : Line) → tag_of line ≡ tag → line_bytes tag line ≡ encode_field tag (encode_numbers (numbers_of line))
unfolding line_bytes
line_own tag line e = rw (eq-eqb (tag_of line) tag e)

line_other : (tag : ℕ) (line : Line) → (tag_of line ≡ tag → ⊥) → line_bytes tag line ≡ []
unfolding line_bytes
line_other tag line h = rw (ne_eqb (tag_of line) tag h)

bytes_are : (tag : ℕ) (line : Line) → line_bytes tag line ≡ encode_run tag (map its (fields_in tag (line ∷ [])))
unfolding line_bytes fields_in encode_run
bytes_are tag line = go (eqb (tag_of line) tag)
  where
    go : (t : Bool) → cond t (encode_field tag (encode_numbers (numbers_of line))) []
        ≡ encode_run tag (map its (cond t (record { start = start_of line; it = numbers_of line } ∷ []) []))
    go true = sym (append-nil (encode_field tag (encode_numbers (numbers_of line))))
    go false = refl

same_line : {a b : Line} {xs ys : List Line} → ◌≡◌ {A = Reading (List Line)} (accepted (a ∷ xs)) (accepted (b ∷ ys)) → a ≡ b
same_line e = cc

module _ {text : List ℕ} {at : ℕ} {b : Brief} {tag room : ℕ} (f : LineFits text at b tag room) where
  own_tag : tag_byte b.kind ≡ tag_of f.line
  own_tag = ap (λ (x : Brief). tag_byte x.kind) f.briefly ∙ tag_is f.line

  pub skips : (tag_byte b.kind ≡ tag → ⊥) → (buffer : List ℕ) → LineFills text at tag buffer 0 buffer
  skips h buffer line rest e =
      let same = same_line (sym f.here ∙ e) in
      let none = ap (line_bytes tag) (sym same) ∙ line_other tag f.line (λ q. h (own_tag ∙ q)) in
      (ap length (sym none), ap (λ (x : List ℕ). filled x buffer) (sym none))

  module _ (own : tag_byte b.kind ≡ tag) where
    pub here_own : tag_of f.line ≡ tag
    here_own = sym own_tag ∙ own

    count_is : b.count ≡ length (numbers_of f.line)
    unfolding brief
    count_is = ap (λ (x : Brief). x.count) f.briefly ∙ fewer (length (numbers_of f.line)) (f.small here_own)

    pub count_fits : b.count ≤ 17
    count_fits = let s = f.small here_own in let c = count_is in omega arith

    pub said : {numbers : List ℕ} → NumbersTell text at numbers → take b.count numbers ≡ numbers_of f.line
    said {numbers} n =
        ap (take b.count) (n f.line f.rest f.here) ∙ ap (λ (k : ℕ). take k (padded 17 (numbers_of f.line))) count_is
        ∙ padded_taken 17 (numbers_of f.line) (f.small here_own)

    pub bytes_own : line_bytes tag f.line ≡ encode_field tag (encode_numbers (numbers_of f.line))
    bytes_own = line_own tag f.line here_own

    pub fills : (ns buffer : List ℕ) {after : List ℕ} {count : ℕ} → ns ≡ numbers_of f.line → Fills (encode_field tag (encode_numbers ns)) buffer count after
        → LineFills text at tag buffer count after
    fills ns buffer {after} {count} q w line rest e =
        let same = same_line (sym f.here ∙ e) in
        let bytes = ap (λ (x : List ℕ). encode_field tag (encode_numbers x)) q ∙ sym bytes_own ∙ ap (line_bytes tag) same in
        (w.0 ∙ ap length bytes, w.1 ∙ ap (λ (x : List ℕ). filled x buffer) bytes)

-- ---- the loop

pub record Writing (text : List ℕ) (tag : ℕ) (start buffer : List ℕ) (at end : ℕ) : Type 0 where
  pub done : List Line
  pub walked : LinesRead text done at
  pub ends : end ≡ length (encode_run tag (map its (fields_in tag done)))
  pub written : buffer ≡ filled (encode_run tag (map its (fields_in tag done))) start

pub writing_none : (text : List ℕ) (tag : ℕ) (start : List ℕ) → Writing text tag start start 0 0
unfolding fields_in encode_run
writing_none text tag start = record { done = []; walked = lines_start text; ends = refl; written = refl }

pub writing_done : (text : List ℕ) (tag : ℕ) {start buffer : List ℕ} {at end : ℕ} → Typed text → (g : Writing text tag start buffer at end)
    → lines_of text ≡ accepted g.done → Fills (encode_run tag (contents_in tag text)) start end buffer
writing_done text tag {start} t g e =
    let all = ap (λ (l : List Line). encode_run tag (map its (fields_in tag l))) (sym (all_done text t e)) in
    (g.ends ∙ ap length all, g.written ∙ ap (λ (x : List ℕ). filled x start) all)

module _ (text : List ℕ) {tag : ℕ} {start buffer : List ℕ} {at end : ℕ} (f : RunFits text tag (length start)) (g : Writing text tag start buffer at end)
    {b : Brief} {after : ℕ} (m : LineEnds text fresh at b after) where
  abbrev line : Line
  line = m.line

  abbrev walked : LinesRead text (g.done ++ (line ∷ [])) after
  walked = lines_on g.walked m

  -- The contents of all lines: of those done, of this one, and of the rest.
  parted : (rest : List Line) × (contents_in tag text ≡ map its (fields_in tag g.done) ++ (map its (fields_in tag (line ∷ [])) ++ map its (fields_in tag rest)))
  parted =
      let s = lines_split text f.read walked in (
        s.0,
        ap (λ (l : List Line). map its (fields_in tag l)) (s.1 ∙ append_assoc g.done (line ∷ []) s.0)
            ∙ ap (map its) (fields_append tag g.done (line ∷ s.0)) ∙ its_append (fields_in tag g.done) (fields_in tag (line ∷ s.0))
            ∙ ap (λ (l : List (List ℕ)). map its (fields_in tag g.done) ++ l)
            (ap (map its) (fields_append tag (line ∷ []) s.0) ∙ its_append (fields_in tag (line ∷ [])) (fields_in tag s.0)),
      )

  pub line_room : end + length (line_bytes tag line) ≤ length start
  line_room =
      let p = parted in
      let done = map its (fields_in tag g.done) in
      let own = map its (fields_in tag (line ∷ [])) in
      let rest = map its (fields_in tag p.0) in
      let whole = ap (encode_run tag) p.1 ∙ run_append tag done (own ++ rest) ∙ ap (λ (l : List ℕ). encode_run tag done ++ l) (run_append tag own rest) in
      let sum = ap length whole ∙ length-append (encode_run tag done) (encode_run tag own ++ encode_run tag rest) in
      let later = length-append (encode_run tag own) (encode_run tag rest) in
      let here = ap length (bytes_are tag line) in
      let fits = f.fits in
      let ends = g.ends in omega arith

  line_here : (rest : List Line) × (lines_at text fresh at ≡ accepted (line ∷ rest))
  line_here =
      let t = through (lines_at text fresh after) (λ rest. accepted ((g.done ++ (line ∷ [])) ++ rest)) (sym walked.reads ∙ f.read) in
      (t.value, m.reads ∙ ap (λ (o : Reading (List Line)). and_then o (λ lines. accepted (line ∷ lines))) t.first)

  line_small : tag_of line ≡ tag → length (numbers_of line) ≤ 17
  line_small own =
      let p = parted in
      let all : All (Within 17) (map its (fields_in tag g.done) ++ (map its (fields_in tag (line ∷ [])) ++ map its (fields_in tag p.0))) =
      rw p.1 at f.small in
      let later = (all_split (map its (fields_in tag g.done)) (map its (fields_in tag (line ∷ [])) ++ map its (fields_in tag p.0)) all).1 in
      let here = (all_split (map its (fields_in tag (line ∷ []))) (map its (fields_in tag p.0)) later).0 in
      first (rw (field_own tag line own) at here)
    where
      first : All (Within 17) (numbers_of line ∷ []) → length (numbers_of line) ≤ 17
      first (each h hs) = h.fits

  pub line_fits : {room : ℕ} → room ≡ length (drop end buffer) → length (drop end buffer) + end ≡ length start → LineFits text at b tag room
  line_fits {room} q h =
      let r = line_room in
      record {
        line = line;
        rest = line_here.0;
        here = line_here.1;
        briefly = m.briefly;
        within = g.walked.within;
        small = line_small;
        fits = omega arith;
      }

  pub size_here : {part : List ℕ} {size : ℕ} → LineFills text at tag (drop end buffer) size part → size ≡ length (line_bytes tag line)
  size_here w = (w line line_here.0 line_here.1).0

  pub writing_more : {part : List ℕ} {size : ℕ} → LineFills text at tag (drop end buffer) size part
      → Writing text tag start (take end buffer ++ part) after (end + size)
  writing_more {part} {size} w =
      let l = w line line_here.0 line_here.1 in
      let done = map its (fields_in tag g.done) in
      let more = ap (encode_run tag) (contents_more tag g.done line refl) ∙ run_append tag done (map its (fields_in tag (line ∷ [])))
      ∙ ap (λ (x : List ℕ). encode_run tag done ++ x) (sym (bytes_are tag line)) in
      let size_is = ap length more ∙ length-append (encode_run tag done) (line_bytes tag line) in
      record {
        done = g.done ++ (line ∷ []);
        walked = walked;
        ends = let a = g.ends in let z = l.0 in omega arith;
        written =
            filled_then (encode_run tag done) (line_bytes tag line) start buffer part end g.written g.ends l.1
            ∙ ap (λ (x : List ℕ). filled x start) (sym more);
      }
