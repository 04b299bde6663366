-- Answers in the papers' numbers and values: "a definition gives this paper's number and values for each of its cases".
use Rattle.std.specs.Prelude.{ℕ, length, Ok, Err}
use Rattle.std.specs.declared.result.Result.{Result}
use Rattle.papers.specs.declared.Paper.{Paper}
use Rattle.papers.specs.declared.Fault.{Fault}
use Rattle.papers.specs.declared.Fault.TheVariants as fault
use Rattle.papers.specs.declared.Refusal as declared
use Rattle.papers.specs.declared.Bare.{Bare}
use Rattle.papers.specs.declared.Bare.TheVariants.{ShortDual, ShortModel, NoScenario, SpoiltSearch, SharedBit, UnlistedBit}
use Rattle.papers.specs.declared.Contents.{Contents}
use Rattle.papers.specs.Outcome.{Refusal, Outcome, accepted, refused, refusal}
use Rattle.papers.specs.Reading.{Papers}
use Rattle.papers.specs.Answers.{contents_of}

-- 1, cut: "the bytes end inside a field or before 7F". 2, stray field: "unknown or not allowed there". 3, misfit: "length not allowed for
-- the tag". 4, edition: "value is not 1". 5, atom count: "0 or above 256". 6, unlisted: a number that may not stand there. 7, disorder: an
-- abducible not above the one before. 8, fixed fault: "a head is an abducible or its negation". 9, overfull: rule 1,025 or integrity rule
-- 257. 10, tail: "bytes follow 7F".
abbrev pub fault_number : Fault → ℕ
fault_number fault.Cut = 1
fault_number fault.StrayField = 2
fault_number fault.Misfit = 3
fault_number fault.Edition = 4
fault_number fault.AtomCount = 5
fault_number fault.Unlisted = 6
fault_number fault.Disorder = 7
fault_number fault.FixedFault = 8
fault_number fault.Overfull = 9
fault_number fault.Tail = 10

-- A refusal by its number.
abbrev pub refusal_of : declared.Refusal → Refusal
refusal_of r = refusal (fault_number r.fault) r.paper r.place

-- The number of the check that failed, and 0 where none did.
unfoldable pub check_told : Result Unit Fault → ℕ
check_told (Ok passed) = 0
check_told (Err f) = fault_number f

-- 11, short dual: "lent dual buffer shorter than the dual". 12, short model: "lent model buffer shorter than N". 13, no scenario: "number
-- not below 3^k". 14, spoilt search: "position above 3^k, found above list length, or the first found entries not strictly rising or not
-- all below position". 15, shared bit: "the masks share a bit". 16, unlisted bit: "a bit at or above k is set".
abbrev pub bare_number : Bare → ℕ
bare_number ShortDual = 11
bare_number ShortModel = 12
bare_number NoScenario = 13
bare_number SpoiltSearch = 14
bare_number SharedBit = 15
bare_number UnlistedBit = 16

-- What an answer tells: the call's values, or a refusal. "A refusal carries the number; 1 to 10 name the paper (file or sheet) and the
-- place."
pub data Told (A : Type 0) : Type 0 where
  tells : A → Told A
  refused_by : ℕ → Told A
  refused_at : ℕ → Paper → ℕ → Told A

-- The refusal's number, and 0 where there is none.
unfoldable pub number_told : {A : Type 0} → Told A → ℕ
number_told (tells a) = 0
number_told (refused_by number) = number
number_told (refused_at number paper place) = number

unfoldable pub bare_told : {A : Type 0} → Bare → Told A
bare_told bare = refused_by (bare_number bare)

unfoldable pub refusal_told : {A : Type 0} → Refusal → Told A
refusal_told r = refused_at r.number r.paper r.place

-- What reading comes to, and what is told of what it accepts.
unfoldable pub read_told : {A B : Type 0} → (A → B) → Outcome A → Told B
read_told values (accepted a) = tells (values a)
read_told values (refused r) = refusal_told r

-- What a call's answer tells, by what its value stands for; and where the value stands for itself.
unfoldable pub value_told : {A B : Type 0} → (A → B) → Result A declared.Refusal → Told B
value_told means (Ok a) = tells (means a)
value_told means (Err r) = refusal_told (refusal_of r)

abbrev pub result_told : {A : Type 0} → Result A declared.Refusal → Told A
result_told = value_told (λ a. a)

-- Reading both papers tells the file's counts and places, and how many literals the query has.
abbrev pub papers_of : Papers → Contents × ℕ
papers_of p = (contents_of p.program, length p.query)
