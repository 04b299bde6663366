-- The bytes of a program and of a query.
use Rattle.std.specs.Prelude.{List, [], ◌∷◌, ◌++◌, map, ℕ, ◌/◌, ◌%◌, length}
use Rattle.papers.specs.Program.{Rule, Program, Query}

-- Two-byte numbers, high byte first.
unfoldable pub encode_numbers : List ℕ → List ℕ
encode_numbers [] = []
encode_numbers (n ∷ more) = n / 256 ∷ n % 256 ∷ encode_numbers more

-- "One-byte tag, two-byte length, content."
unfoldable pub encode_field : ℕ → List ℕ → List ℕ
encode_field tag content = tag ∷ length content / 256 ∷ length content % 256 ∷ content

-- Fields of one tag, one after the other, each given by its numbers.
unfoldable pub encode_run : ℕ → List (List ℕ) → List ℕ
encode_run tag [] = []
encode_run tag (content ∷ more) = encode_field tag (encode_numbers content) ++ encode_run tag more

-- "Head objective literal, then body literals."
abbrev pub rule_numbers : Rule → List ℕ
rule_numbers r = r.head ∷ r.body

unfoldable pub encode_file : Program → List ℕ
encode_file p =
    encode_field 0x01 (1 ∷ [])
    ++ (encode_field 0x02 (encode_numbers (p.atoms ∷ []))
    ++ (encode_field 0x03 (encode_numbers p.abducibles)
    ++ (encode_run 0x04 (map rule_numbers p.rules)
    ++ (encode_run 0x05 p.integrity
    ++ encode_field 0x7F []))))

unfoldable pub encode_sheet : Query → List ℕ
encode_sheet query = encode_field 0x06 (encode_numbers query) ++ encode_field 0x7F []
