-- How long the lines are at most. Assumes nothing.
use mathlib.Core.Path.{ap, ◌∙◌}
use mathlib.Core.List.{List, [], ◌∷◌, ◌++◌}
use Prim.Native.Nat.{ℕ, ◌*◌, ◌/◌, ◌%◌, ◌^◌, ◌≤◌, ◌<◌}
use native.Mathlib.Omega.{arith}
use native.Mathlib.Decide.{ℕ_discrete}
use lib.ListN.{length, length-append}
use Rattle.papers.specs.Valid.{All}
use Rattle.papers.specs.Valid.{All.none as nothing, All.each as each}
use Rattle.decimals.specs.Decimal.{decimal}
use Rattle.decimals.specs.Text.{spaced, line}
use Rattle.found_lines.specs.FoundLine.{sign, assumption, assumptions, found_line}
use Rattle.decimals.proofs.DecimalLaws.{decimal_length}
use Rattle.decimals.proofs.Putting.{spaced_append}
use Rattle.found_lines.proofs.Items.{item_open, item_signed}

-- ---- found

item_length : (atom digit : ℕ) → atom < 1000 → length (spaced (assumption atom digit)) ≤ 5
item_length atom digit h = elim (ℕ_discrete digit 0) [
  | yes e ↦ rw (item_open atom digit e) (omega arith)
  | no e ↦
      let d = decimal_length 2 atom (omega arith) in
      let l = length-append (32 ∷ decimal atom) (sign digit ∷ []) in
      rw (item_signed atom digit e) (omega arith)
]

items_length : (abducibles : List ℕ) (scenario : ℕ) → All (◌< 1000) abducibles → length (spaced (assumptions abducibles scenario)) ≤ 5 * length abducibles
unfolding assumptions spaced
items_length [] scenario nothing = omega arith
items_length (atom ∷ more) scenario (each h rest) =
    let one = item_length atom (scenario % 3) h in
    let ih = items_length more (scenario / 3) rest in
    let first = assumption atom (scenario % 3) in
    let others = assumptions more (scenario / 3) in
    let l = ap length (spaced_append first others) ∙ length-append (spaced first) (spaced others) in
    omega arith

-- A scenario of 8 digits, at most 16 abducibles of 3 digits: 95 bytes.
pub found_length : (scenario : ℕ) (abducibles : List ℕ) → scenario < 10 ^ 8 → All (◌< 1000) abducibles → length abducibles ≤ 16
    → length (found_line scenario abducibles) ≤ 95
unfolding found_line line spaced
found_length scenario abducibles h below few =
    let d = decimal_length 7 scenario h in
    let i = items_length abducibles scenario below in
    let l = length-append (decimal scenario) (spaced (assumptions abducibles scenario)) in
    let m = length-append (decimal scenario ++ spaced (assumptions abducibles scenario)) (10 ∷ []) in
    omega arith
