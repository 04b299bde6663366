-- Texts of document 02's Card 4, and the programs that they type.
use Rattle.std.specs.Prelude.{List, [], ◌∷◌, ◌++◌, ℕ, zero, suc}
use Rattle.papers.specs.Program.{Program}
use Rattle.decimals.specs.Text.{ascii}
use Rattle.reference.specs.Programs.{rule}

-- "Import text lines such as `p3 :- -p1, not p0.`"
abbrev pub typed_rule : Program
typed_rule = record { atoms = 4; abducibles = []; rules = rule 6 (6 ∷ 1 ∷ []) ∷ []; integrity = [] }

-- "A line `abducible p4.` declares one, `false :- p1.` is an integrity rule, `false.` is one with no literals, `p2.` is a fact", with line ends between.
abbrev pub forms_text : List ℕ
forms_text = ascii "abducible p4." ++ 0x0D ∷ 0x0A ∷ ascii "false :- p1." ++ 0x0A ∷ ascii "false. p2." ++ 0x0A ∷ []

abbrev pub typed_forms : Program
typed_forms = record { atoms = 5; abducibles = 4 ∷ []; rules = rule 4 [] ∷ []; integrity = (4 ∷ []) ∷ [] ∷ [] }

-- Tokens that touch, the greatest atom among them.
abbrev pub typed_touching : Program
typed_touching = record { atoms = 256; abducibles = []; rules = rule 3 (1 ∷ 1023 ∷ []) ∷ []; integrity = [] }

-- "Abducibles are written rising, and naming one twice is the same as once."
abbrev pub typed_rising : Program
typed_rising = record { atoms = 3; abducibles = 0 ∷ 2 ∷ []; rules = []; integrity = [] }

-- "Or 1."
abbrev pub typed_nothing : Program
typed_nothing = record { atoms = 1; abducibles = []; rules = []; integrity = [] }

-- Seventeen different abducibles, p0 to p16, the first of them declared twice.
abbrev pub seventeen_text : List ℕ
seventeen_text =
    ascii "abducible p0.abducible p0.abducible p1.abducible p2.abducible p3.abducible p4.abducible p5.abducible p6.abducible p7."
    ++ ascii "abducible p8.abducible p9.abducible p10.abducible p11.abducible p12.abducible p13.abducible p14.abducible p15.abducible p16."

-- A text so many times.
unfoldable pub repeated : ℕ → List ℕ → List ℕ
repeated zero text = []
repeated (suc n) text = text ++ repeated n text
