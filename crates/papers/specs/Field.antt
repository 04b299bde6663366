-- Fields: "one-byte tag, two-byte length, content; all two-byte numbers are unsigned, high byte first".
use Rattle.std.specs.Prelude.{Bool, false, not, ◌&&◌, cond, List, [], ◌∷◌, ℕ, ◌+◌, ◌*◌, ◌%◌, eqb, leb, length, get_or, take, drop}
use Rattle.papers.specs.declared.Paper.{Paper}
use Rattle.papers.specs.Outcome.{Outcome, accepted, check, passing}

-- A two-byte number, high byte first.
abbrev pub number : ℕ → ℕ → ℕ
number high low = high * 256 + low

-- The one at a place.
abbrev pub number_in : List ℕ → ℕ → ℕ
number_in bytes place = number (get_or bytes place 0) (get_or bytes (place + 1) 0)

-- The two-byte numbers of a content, in order.
unfoldable pub numbers : List ℕ → List ℕ
numbers [] = []
numbers (b ∷ []) = []
numbers (high ∷ low ∷ rest) = number high low ∷ numbers rest

-- The length that the field at the start of these bytes gives.
unfoldable pub size_of : List ℕ → ℕ
size_of bytes = number (get_or bytes 1 0) (get_or bytes 2 0)

-- The content of the field at the start of these bytes.
unfoldable pub content_of : List ℕ → List ℕ
content_of bytes = take (size_of bytes) (drop 3 bytes)

-- How many two-byte numbers a field of this tag has at least: the atom count one, a rule its head.
unfoldable pub fewest : ℕ → ℕ
fewest tag = cond (eqb tag 0x02) 1 (cond (eqb tag 0x04) 1 0)

-- And at most: the atom count one, a rule its head and 16 literals, the end none, any other 16.
unfoldable pub most : ℕ → ℕ
most tag = cond (eqb tag 0x02) 1 (cond (eqb tag 0x04) 17 (cond (eqb tag 0x7F) 0 16))

-- "Length not allowed for the tag" (3) otherwise. The edition's content is one byte, every other's is two-byte numbers.
unfoldable pub length_allowed : ℕ → ℕ → Bool
length_allowed tag len =
    cond (eqb tag 0x01) (eqb len 1)
    (cond (eqb (len % 2) 0) (leb (2 * fewest tag) len && leb len (2 * most tag)) false)

-- "For each field: heading whole (1), tag (2), count (9), length (3), content whole (1)." `full` says that no more fields of
-- this tag may stand there; the bytes are those from the field's first on.
unfoldable pub field_fault : ℕ → Bool → List ℕ → ℕ
field_fault tag full bytes =
    check (leb 3 (length bytes)) 1
    (check (eqb (get_or bytes 0 0) tag) 2
    (check (not full) 9
    (check (length_allowed tag (size_of bytes)) 3
    (check (leb (3 + size_of bytes) (length bytes)) 1
    0))))

-- The content of the field of this tag at a place of a paper.
unfoldable pub read_field : Paper → ℕ → Bool → ℕ → List ℕ → Outcome (List ℕ)
read_field paper tag full place bytes =
    passing (field_fault tag full (drop place bytes)) paper place
    (accepted (content_of (drop place bytes)))
