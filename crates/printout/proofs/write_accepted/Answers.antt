-- `printout::write_accepted` meets its contract.
use mathlib.Core.Path.{◌≡◌, sym, subst, ◌∙◌}
use mathlib.Core.List.{List}
use Prim.Native.Nat.{ℕ, ◌+◌, ◌-◌, ◌*◌, ◌≤◌}
use native.Mathlib.Omega.{arith}
use lib.ListN.{length, take, drop, length-take}
use Rattle.papers.specs.Field.{numbers}
use Rattle.papers.specs.Reading.{read_papers}
use Rattle.trying.specs.Trying.{problem_of}
use Rattle.printout.specs.DeskSearch.{AcceptedAs}
use Rattle.printout.specs.Output.{found_lines}
use Rattle.printout.proofs.PaperLaws.{problem_is, small, program_valid, atoms_told}
use Rattle.printout.proofs.PaperLaws.{abducibles_below, listed_are, few_listed, listed_within, listed_there}
use Rattle.printout.proofs.TextLaws.{lines_few, text_printed, text_is}
use Rattle.printout.proofs.write_accepted.Goals as goal
use Rattle.printout.proofs.write_accepted.Goals.{Start, After-search_all-progress}

sixteen : (c : Start) → c.args.contents.abducibles ≤ 16
sixteen c = let both = c.requires.accepted in few_listed c.args.file.now c.args.sheet.now both.is both.told

-- ---- once the search is over

module _ (c : After-search_all-progress) where
  abbrev file : List ℕ
  file = c.args.file.now

  abbrev sheet : List ℕ
  sheet = c.args.sheet.now

  abbrev both : AcceptedAs (read_papers file sheet) c.args.contents
  both = c.requires.accepted

  -- The abducibles, as the code takes them from the file.
  abbrev listed : List ℕ
  listed = numbers (take (12 + 2 * c.args.contents.abducibles - 12) (drop 12 file))

  there : both.papers.program.abducibles ≡ listed
  there = listed_there file sheet both.is both.told (λ i. (c.type_inv.file i).fits)

  -- The list that the search left, and its found entries.
  abbrev list : List ℕ
  list = c.search_all-progress.new.list

  abbrev entries : List ℕ
  entries = take c.search_all-progress.result.reached.at.found list

  long : length list ≡ 1024
  long = c.search_all-progress.auto.list ∙ c.requires.room.1

  -- The lines of the found entries are at most 95 bytes each.
  lines_long : length (found_lines listed entries) ≤ 95 * length list
  lines_long =
      let q = both.papers in
      let stands = rw (problem_is both.is) at c.search_all-progress.ensures.0 in
      let lines = lines_few (problem_of q) (small file sheet both.is) list c.search_all-progress.result stands in
      let few = (program_valid file sheet both.is).few_abducibles in
      let most = lines q.program.abducibles (abducibles_below file sheet both.is) few in
      subst (λ (l : List ℕ). length (found_lines l entries) ≤ 95 * length list) there most

pub slice_bounds-abducibles-end : goal.slice_bounds-abducibles-end
slice_bounds-abducibles-end c =
    let both = c.requires.accepted in
    let t = listed_within c.args.file.now c.args.sheet.now both.is both.told (λ i. (c.type_inv.file i).fits) in
    omega arith

pub scenario_count-total-requires : goal.scenario_count-total-requires
scenario_count-total-requires c = sixteen (goal.at.scenario_count-total-requires c).Start

pub write_found_lines-requires : goal.write_found_lines-requires
write_found_lines-requires c =
    let at = goal.at.write_found_lines-requires c in
    let size = long at.After-search_all-progress in
    let most = sixteen at.Start in
    let l = length-take (12 + 2 * c.args.contents.abducibles - 12) (drop 12 c.args.file.now) in
    let m = length-take c.search_all-progress.result.reached.at.found c.search_all-progress.new.list in
    (let x = c.write_heading.ensures.short in let y = c.requires.start in omega arith, (omega arith, omega arith))

pub returns-clause-text : goal.returns-clause-text
returns-clause-text c =
    let file = c.args.file.now in
    let sheet = c.args.sheet.now in
    let both = c.requires.accepted in
    let search = c.search_all-progress.ensures in
    let atoms = atoms_told file sheet both.is both.told ∙ sym c.from.ensures in
    let abducibles = listed_are file sheet both.is both.told in
    let total = sym c.scenario_count-total.ensures ∙ sym c.from-2.ensures in
    let listed = there (goal.at.returns-clause-text c).After-search_all-progress in
    let heading = c.write_heading.ensures.line in
    let found = c.write_found_lines.ensures.lines in
    let text = text_printed both.is search.0 search.1 atoms abducibles total listed heading found c.write_last.ensures.line in
    rw (text_is both.is c.requires.room.1) at text

pub returns-clause-short : goal.returns-clause-short
returns-clause-short c =
    let at = (goal.at.returns-clause-short c).After-search_all-progress in
    let lines = lines_long at in
    let size = long at in
    let start = c.requires.start in
    let p = c.write_found_lines.ensures.lines.put.place in
    let x = c.write_heading.ensures.short in
    let y = c.write_last.ensures.short in
    omega arith
