-- The bytes of a dual table, and reading them back.
use Rattle.std.specs.Prelude.{cond, List, [], ◌∷◌, ◌++◌, ℕ, zero, suc, ◌+◌, eqb, length, get_or, drop}
use Rattle.papers.specs.Field.{numbers, content_of}
use Rattle.papers.specs.Encoding.{encode_numbers, encode_field}
use Rattle.dual.specs.Table.{Field, literal, fold}

abbrev pub tag_of : Field → ℕ
tag_of (literal o folds) = 0x08
tag_of (fold k conjugates) = 0x09

-- "08 with its number and the fold numbers"; "09 with the fold number and the default conjugates".
abbrev pub numbers_of : Field → List ℕ
numbers_of (literal o folds) = o ∷ folds
numbers_of (fold k conjugates) = k ∷ conjugates

unfoldable pub encode_fields : List Field → List ℕ
encode_fields [] = []
encode_fields (f ∷ more) = encode_field (tag_of f) (encode_numbers (numbers_of f)) ++ encode_fields more

-- "At the end, 7F."
unfoldable pub encode_dual : List Field → List ℕ
encode_dual fields = encode_fields fields ++ encode_field 0x7F []

-- The field of a tag and its numbers.
abbrev pub field_from : ℕ → List ℕ → List Field → List Field
field_from tag [] more = more
field_from tag (n ∷ ns) more = cond (eqb tag 0x08) (literal n ns) (fold n ns) ∷ more

-- The fields that stand in these bytes up to 7F; at most `room`.
unfoldable pub read_fields : ℕ → List ℕ → List Field
read_fields zero bytes = []
read_fields (suc room) bytes =
    let more = read_fields room (drop (3 + length (content_of bytes)) bytes) in
    let found = field_from (get_or bytes 0 0) (numbers (content_of bytes)) more in
    cond (eqb (get_or bytes 0 0) 0x7F) [] found
