-- What stands in the bytes of a dual. p is a program.
use Rattle.std.specs.Prelude.{◌≡◌, true, cond, List, [], ◌∷◌, ◌++◌, map, ℕ, ◌+◌, ◌-◌, ◌*◌, ◌≤◌, ◌<◌, eqb, length, get_or, take, drop, Option, Some, None}
use Rattle.literals.specs.Numbering.{judged}
use Rattle.papers.specs.Program.{Program, all_rules}
use Rattle.papers.specs.Valid.{Valid}
use Rattle.papers.specs.Field.{number_in, numbers, size_of, content_of}
use Rattle.papers.specs.Encoding.{encode_field}
use Rattle.dual.specs.Table.{folds_of, has_entry, fold_field, entries_from}
use Rattle.dual.specs.TableEncoding.{encode_fields}
use Rattle.dual.specs.Bytes.{dual_of}

-- The literals that the 09 field at the start of these bytes lists, after its fold number.
unfoldable pub listed_in : List ℕ → List ℕ
listed_in bytes = numbers (drop 2 (content_of bytes))

-- These as a clause, with the bytes that they take in front.
abbrev pub clause_in : List ℕ → List ℕ
clause_in bytes = 2 * length (listed_in bytes) ∷ listed_in bytes

-- It stands there whole.
pub record FoldStands (bytes : List ℕ) : Type 0 where
  pub numbered : 2 ≤ size_of bytes
  pub whole : 3 + size_of bytes ≤ length bytes

-- The number of the 08 field at the start of these bytes; none where another field stands there.
unfoldable pub literal_in : List ℕ → Option ℕ
literal_in bytes = cond (eqb (get_or bytes 0 0) 0x08) (Some (number_in bytes 3)) None

-- A field stands there, and an 08 field with its number.
pub record FieldStands (bytes : List ℕ) : Type 0 where
  pub tagged : 0 < length bytes
  pub numbered : get_or bytes 0 0 ≡ 0x08 → 4 < length bytes

-- The entries of the objective literals from o on, the end, and what comes after it.
unfoldable pub bytes_from : Program → ℕ → List ℕ → List ℕ
bytes_from p o after = encode_fields (entries_from p (judged p.atoms - o) o) ++ (encode_field 0x7F [] ++ after)

-- A buffer that begins with the dual of a program.
pub record DualStarts (p : Program) (bytes : List ℕ) : Type 0 where
  pub valid : Valid p
  pub starts : take (length (dual_of p)) bytes ≡ dual_of p

-- At a place of it the entries of the objective literals from o on.
pub record EntriesAt (p : Program) (bytes : List ℕ) (o place : ℕ) : Type 0 where
  pub valid : Valid p
  pub stands : drop place bytes ≡ bytes_from p o (drop (length (dual_of p)) bytes)

-- At a place of it the 09 fields of o's folds, from the i-th on, and then the entries from o + 1 on.
pub record FoldsAt (p : Program) (bytes : List ℕ) (o i place : ℕ) : Type 0 where
  pub valid : Valid p
  pub within : o < judged p.atoms
  pub entered : has_entry p o ≡ true
  pub stands : drop place bytes
      ≡ encode_fields (map (fold_field (all_rules p)) (drop i (folds_of p o))) ++ bytes_from p (o + 1) (drop (length (dual_of p)) bytes)
