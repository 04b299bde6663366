-- The text that is printed: its lines one by one, and how long it is at most. Assumes nothing.
use mathlib.Core.Path.{◌≡◌, sym, ap, subst, ◌∙◌}
use mathlib.Core.List.{List, [], ◌∷◌, ◌++◌}
use Prim.Native.Nat.{ℕ, ◌+◌, ◌*◌, ◌^◌, ◌≤◌, ◌<◌}
use native.Mathlib.Omega.{arith}
use native.Mathlib.Numerals.{add-one}
use lib.ListN.{length, get_or, take, drop, drop_of_length-le, length-append}
use lib.Seq.{drop-cons}
use lib.Dec.{T, ltb, ltb→lt}
use Rattle.papers.specs.Valid.{All}
use Rattle.papers.specs.Outcome.{Outcome, accepted}
use Rattle.papers.specs.Reading.{Papers}
use Rattle.papers.proofs.TestLaws.{left, right}
use Rattle.steps.specs.Explanations.{Problem, scenarios, minimals, stop, sum_below}
use Rattle.steps.specs.Spoilt.{all_below}
use Rattle.trying.specs.Trying.{problem_of}
use Rattle.steps.proofs.Stopping.{stop_le, stop_count}
use Rattle.steps.proofs.Sound.{minimals_below}
use Rattle.decimals.specs.declared.Printer.{Printer}
use Rattle.decimals.specs.Printing.{Printed}
use Rattle.found_lines.specs.FoundLine.{found_line}
use Rattle.report.specs.Lines.{heading_line, last_line}
use Rattle.decimals.proofs.Printing.{printed_append}
use Rattle.found_lines.proofs.LineLengths.{found_length}
use Rattle.printout.specs.declared.searching.Progress.{Progress}
use Rattle.printout.specs.DeskSearch.{problem_for, Stands, last_state, Finished}
use Rattle.printout.specs.Output.{found_lines, search_text, desk_text}
use Rattle.printout.proofs.PaperLaws.{Small, problem_is}

-- ---- the found lines, one by one

module _ (abducibles : List ℕ) (i : ℕ) (entries : List ℕ) where
  pub lines_none : length entries ≤ i → found_lines abducibles (drop i entries) ≡ []
  unfolding found_lines
  lines_none h = rw (drop_of_length-le entries {i = i} h)

  pub lines_next : i < length entries
      → found_lines abducibles (drop i entries) ≡ found_line (get_or entries i 0) abducibles ++ found_lines abducibles (drop (i + 1) entries)
  unfolding found_lines
  lines_next h = rw (drop-cons entries i 0 h, add-one i)

-- ---- how long they are

lines_length : (abducibles entries : List ℕ) (p : ℕ) → p ≤ 43046721 → T (all_below p entries) → All (◌< 1000) abducibles → length abducibles ≤ 16
    → length (found_lines abducibles entries) ≤ 95 * length entries
unfolding found_lines all_below
lines_length abducibles [] p few below small short = omega arith
lines_length abducibles (s ∷ more) p few below small short =
    let b = ltb→lt s p (left (ltb s p) (all_below p more) below) in
    let one = found_length s abducibles (omega arith) small short in
    let ih = lines_length abducibles more p few (right (ltb s p) (all_below p more) below) small short in
    let l = length-append (found_line s abducibles) (found_lines abducibles more) in
    omega arith

-- The found entries are at most as many as the list has places.
pub few_found : (P : Problem) (list : List ℕ) (s : Progress) → Stands P list s → s.reached.at.found ≤ length list
few_found P list s stands = let c = stop_count P (length list) s.reached.at.position stands.within in let f = stands.found in omega arith

-- Their lines are at most 95 bytes each.
pub lines_few : (P : Problem) → Small P → (list : List ℕ) (s : Progress) → Stands P list s → (abducibles : List ℕ) → All (◌< 1000) abducibles
    → length abducibles ≤ 16 → length (found_lines abducibles (take s.reached.at.found list)) ≤ 95 * length list
lines_few P small list s stands abducibles below short =
    let few = few_found P list s stands in
    let top = stop_le P (length list) in
    let low = minimals_below P s.reached.at.position in
    let within : s.reached.at.position ≤ 43046721 = let most = small.few in let reached = stands.within in omega arith in
    let most = lines_length abducibles (minimals P s.reached.at.position) s.reached.at.position within low below short in
    let f = stands.found in
    rw stands.entries (omega arith)

-- ---- the whole text

module _ {read : Outcome Papers} {q : Papers} (is : read ≡ accepted q) {L : ℕ} {list : List ℕ} {s : Progress} (stands : Stands (problem_for read) list s)
    (finished : Finished (problem_for read) L s) where
  pub text_printed : {n k total : ℕ} {abducibles : List ℕ} {p one two three : Printer}
      → q.program.atoms ≡ n → length q.program.abducibles ≡ k → 3 ^ k ≡ total → q.program.abducibles ≡ abducibles
      → Printed (heading_line n k total) p one → Printed (found_lines abducibles (take s.reached.at.found list)) one two
      → Printed (last_line s.state s.tried s.rounds) two three → Printed (search_text q L) p three
  unfolding search_text
  text_printed {n = n} {k = k} {total = total} {abducibles = abducibles} {p = p} {three = three} en ek et ea heading found last =
      let P = problem_of q in
      let same = problem_is is in
      let here : Stands P list s = rw same at stands in
      let done : Finished P L s = rw same at finished in
      let count : scenarios P ≡ total = ap (λ (m : ℕ). 3 ^ m) ek ∙ et in
      let entries : minimals P (stop P L) ≡ take s.reached.at.found list = sym (here.entries ∙ ap (minimals P) done.position) in
      let tried : stop P L ≡ s.tried = sym (here.tried ∙ done.position) in
      let rounds : sum_below (stop P L) P.rounds ≡ s.rounds = sym (here.rounds ∙ ap (λ (m : ℕ). sum_below m P.rounds) done.position) in
      let state : last_state P L ≡ s.state = sym done.state in
      let lines = found_lines abducibles (take s.reached.at.found list) in
      let ending = last_line s.state s.tried s.rounds in
      let text : search_text q L ≡ heading_line n k total ++ (lines ++ ending) =
      λ i. heading_line (en i) (ek i) (count i) ++ (found_lines (ea i) (entries i) ++ last_line (state i) (tried i) (rounds i)) in
      subst (λ (t : List ℕ). Printed t p three) (sym text) (printed_append heading (printed_append found last))

-- With a list of 1,024 places it is the program's.
pub text_is : {read : Outcome Papers} {q : Papers} → read ≡ accepted q → {L : ℕ} → L ≡ 1024 → search_text q L ≡ desk_text read
unfolding desk_text
text_is {q = q} is e = rw is (ap (search_text q) e)
