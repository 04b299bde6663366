-- What importing a text tells, in document 02's numbers, and what the lent buffer then holds: "fills its buffer and answers as the dual's
-- writer does".
use Rattle.std.specs.Prelude.{Result, Ok, Err, cond, List, ℕ, leb, length}
use Rattle.papers.specs.Program.{Program}
use Rattle.papers.specs.Encoding.{encode_file}
use Rattle.papers.specs.declared.Bare.TheVariants as bare
use Rattle.papers.specs.Told.{bare_number}
use Rattle.dual.specs.Bytes.{filled}
use Rattle.text.specs.Lines.{Reading, accepted, refused}
use Rattle.text.specs.Told.{text_fault_number}
use Rattle.importing.specs.declared.ImportError.{ImportError}
use Rattle.importing.specs.declared.ImportError.TheVariants.{Short, Refused}

-- What an answer tells: the file's length, or a refusal by its number. "The paper named in 1 to 10, 17 and 18 is the text": `refused_in_text`
-- tells the number and the place in it.
pub data ImportTold : Type 0 where
  tells : ℕ → ImportTold
  refused_by : ℕ → ImportTold
  refused_in_text : ℕ → ℕ → ImportTold

unfoldable pub imported_told : Result ℕ ImportError → ImportTold
imported_told (Ok n) = tells n
imported_told (Err Short) = refused_by (bare_number bare.ShortDual)
imported_told (Err (Refused r)) = refused_in_text (text_fault_number r.fault) r.place

-- What importing has to tell. "Then 11 for a buffer shorter than the file"; `room` is the length of the lent buffer.
unfoldable pub import_told : Reading Program → ℕ → ImportTold
import_told (accepted p) room = cond (leb (length (encode_file p)) room) (tells (length (encode_file p))) (refused_by (bare_number bare.ShortDual))
import_told (refused r) room = refused_in_text r.number r.place

-- The buffer afterwards: unchanged on refusal.
abbrev pub import_after : Reading Program → List ℕ → List ℕ
import_after (accepted p) buffer = cond (leb (length (encode_file p)) (length buffer)) (filled (encode_file p) buffer) buffer
import_after (refused r) buffer = buffer
