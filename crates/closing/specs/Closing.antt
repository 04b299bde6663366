-- Closing sets of 64 lanes under rules that stand as rows of numbers: a rule, a pass over the rules, and passes until one changes nothing.
-- `negated` are the words of the g whose not(g) hold.
use Rattle.std.specs.Prelude.{◌≡◌, Bool, false, not, List, map, ℕ, ◌+◌, ◌-◌, ◌*◌, ◌≤◌, ◌<◌, eqb, length, get_or, take, drop, set}
use Rattle.std.specs.Int.Bits.{bit_or}
use Rattle.papers.specs.Program.{Rule, no_rule}
use Rattle.parts.specs.Parts.{place_of}
use Rattle.papers.specs.Tests.{◌or◌}
use Rattle.model.specs.Sets.{full}
use Rattle.model.specs.LeastSet.{least}
use Rattle.lanes.specs.Lanes.{lane, KeptFrom}
use Rattle.lanes.specs.Words.{OtherLanes, Literals, BodyWord, Laned, total}

-- ---- rules as rows

-- The rule whose row stands at a place: its head, how many literals its body has, and these.
unfoldable pub rule_in : List ℕ → ℕ → Rule
rule_in rows place = record { head = get_or rows place 0; body = take (get_or rows (place + 1) 0) (drop (place + 2) rows) }

-- That of a visit,
unfoldable pub visited_rule : List ℕ → ℕ → Rule
visited_rule rows visit = rule_in rows (place_of visit)

-- and those of some visits.
unfoldable pub rules_in : List ℕ → List ℕ → List Rule
rules_in rows visits = map (visited_rule rows) visits

-- A row stands there whole, and there is a word for each of its objective literals.
pub record RuleStands (rows : List ℕ) (place : ℕ) : Type 0 where
  pub within : place + 2 + get_or rows (place + 1) 0 ≤ length rows
  pub head : (rule_in rows place).head < 513
  pub body : Literals 513 (rule_in rows place).body

pub record RulesStand (rows visits : List ℕ) : Type 0 where
  pub at : (i : ℕ) → i < length visits → RuleStands rows (place_of (get_or visits i 0))

-- Rules over the first n objective literals.
pub record Judged (n : ℕ) (rules : List Rule) : Type 0 where
  pub few : n ≤ 513
  pub head : (k : ℕ) → k < length rules → (get_or rules k no_rule).head < n
  pub body : (k : ℕ) → k < length rules → Literals n (get_or rules k no_rule).body

-- ---- closing

-- One rule: its head comes in, in the lanes in which its body holds. Those that have it already are not asked.
pub record Raised (r : Rule) (negated before after : List ℕ) (changed : Bool) : Type 0 where
  pub lanes : ℕ
  pub word : ℕ
  pub fits : word < 18446744073709551616
  pub others : OtherLanes (get_or before r.head 0) lanes
  pub holds : BodyWord r.body before negated lanes word
  pub is : after ≡ set before r.head (bit_or (get_or before r.head 0) word)
  pub told : changed ≡ not (eqb (bit_or (get_or before r.head 0) word) (get_or before r.head 0))

-- The first rules of a list, one after the other, and whether one of them changed a word.
pub data Passed (rules : List Rule) (negated before : List ℕ) : ℕ → List ℕ → Bool → Type 0 where
  begun : Passed rules negated before 0 before false
  then : {count : ℕ} {words after : List ℕ} {changed more : Bool} → Passed rules negated before count words changed
      → Raised (get_or rules count no_rule) negated words after more → Passed rules negated before (count + 1) after (more or changed)

-- In each lane the least set that holds the seed and is closed under the rules, of however many objective literals they speak. u does not hold in it.
-- Past these the words stay.
pub record ClosedTrue (rules : List Rule) (negated before after : List ℕ) : Type 0 where
  pub in_lane : (n : ℕ) → Judged n rules → (l : ℕ) → l < 64
      → lane n l after ≡ least n rules (record { seed = lane n l before; allowed = full n; negated = lane n l negated; undefined = false })
  pub beyond : (n : ℕ) → Judged n rules → KeptFrom n before after
  pub laned : Laned after

-- It falls with each rule that changes a word: the sum has grown.
abbrev pub left_over : List ℕ → ℕ
left_over words = 513 * 18446744073709551616 - total words
