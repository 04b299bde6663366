-- The tests of a field's content, in the order of document 01. A list of checks is the number of the first that fails, or 0.
use Rattle.std.specs.Prelude.{Bool, true, false, not, cond, List, [], ◌∷◌, ℕ, ◌+◌, eqb, leb, ltb}
use Rattle.literals.specs.Numbering.{atom_number, listed, literal_listed}
use Rattle.literals.specs.BodyLiterals.{body_literal, body_listed}
use Rattle.papers.specs.Outcome.{check}

-- 4: "value is not 1".
unfoldable pub edition_fault : ℕ → ℕ
edition_fault value = check (eqb value 1) 4 0

-- 5: "0 or above 256".
unfoldable pub atoms_fault : ℕ → ℕ
atoms_fault n = check (leb 1 n) 5 (check (leb n 256) 5 0)

-- "In 03 each number is tested by 6, then 7": below n, then above the one before. `least` is one more than that one.
unfoldable pub abducibles_fault : ℕ → ℕ → List ℕ → ℕ
abducibles_fault n least [] = 0
abducibles_fault n least (a ∷ more) = check (ltb a n) 6 (check (leb least a) 7 (abducibles_fault n (a + 1) more))

-- A literal may stand there: below 4n, and in a body FFFF too. Card 5: "In heads and in the sheet FFFF is still refused as unlisted."
unfoldable pub literal_allowed : Bool → ℕ → ℕ → Bool
literal_allowed in_body n l = cond in_body (body_listed n (body_literal l)) (literal_listed n l)

-- "Each literal is tested by 6", in a body or in the sheet.
unfoldable pub literals_fault : Bool → ℕ → List ℕ → ℕ
literals_fault in_body n [] = 0
literals_fault in_body n (l ∷ more) = check (literal_allowed in_body n l) 6 (literals_fault in_body n more)

-- Whether an atom is among the abducibles.
unfoldable pub is_among : List ℕ → ℕ → Bool
is_among [] atom = false
is_among (a ∷ more) atom = cond (eqb a atom) true (is_among more atom)

-- "In 04 the head is tested by 6, then 8, then each body literal by 6": below 2n, then no abducible or its negation.
unfoldable pub rule_fault : ℕ → List ℕ → List ℕ → ℕ
rule_fault n abducibles [] = 0
rule_fault n abducibles (head ∷ body) =
    check (listed n head) 6 (check (not (is_among abducibles (atom_number head))) 8 (literals_fault true n body))

-- The test of a rule's or an integrity rule's numbers, by its tag.
unfoldable pub body_fault : ℕ → ℕ → List ℕ → List ℕ → ℕ
body_fault tag n abducibles content = cond (eqb tag 0x04) (rule_fault n abducibles content) (literals_fault true n content)
