-- What a reader answers: what it accepted, or the refusal; and the fixed order of checks as a way to write definitions.
use Rattle.std.specs.Prelude.{Bool, true, false, ℕ, zero, suc}
use Rattle.papers.specs.declared.Paper.{Paper}

-- "A refusal carries the number; 1 to 10 name the paper (file or sheet) and the place."
pub record Refusal : Type 0 where
  pub number : ℕ
  pub paper : Paper
  pub place : ℕ

pub data Outcome (A : Type 0) : Type 0 where
  accepted : A → Outcome A
  refused : Refusal → Outcome A

abbrev pub refusal : ℕ → Paper → ℕ → Refusal
refusal number paper place = record { number = number; paper = paper; place = place }

-- A list of checks is the number of the first that fails, and 0 where none does: this check, then the others.
abbrev pub check : Bool → ℕ → ℕ → ℕ
check true number others = others
check false number others = number

-- What follows once the checks have passed; else the refusal under the number of the first that failed.
abbrev pub passing : {A : Type 0} → ℕ → Paper → ℕ → Outcome A → Outcome A
passing zero paper place next = next
passing (suc n) paper place next = refused (refusal (suc n) paper place)

-- What follows what was accepted; a refusal is handed on.
abbrev pub and_then : {A B : Type 0} → Outcome A → (A → Outcome B) → Outcome B
and_then (accepted a) next = next a
and_then (refused r) next = refused r
