-- The programs and queries that document 01 allows: all its limits.
use Rattle.std.specs.Prelude.{◌≡◌, false, ◌⊎◌, List, [], ◌∷◌, ℕ, ◌+◌, ◌*◌, ◌≤◌, ◌<◌, length}
use Rattle.literals.specs.Numbering.{atom_number, falsum}
use Rattle.papers.specs.Program.{Rule, Program}
use Rattle.papers.specs.Content.{is_among}

-- Every element has a property.
pub data All {A : Type 0} (P : A → Type 0) : List A → Type 0 where
  none : All P []
  each : {a : A} {more : List A} → P a → All P more → All P (a ∷ more)

-- "Strictly rising": each is at least one more than the one before, the first at least `least`.
pub data Rising : ℕ → List ℕ → Type 0 where
  none : {least : ℕ} → Rising least []
  next : {least a : ℕ} {more : List ℕ} → least ≤ a → Rising (a + 1) more → Rising least (a ∷ more)

-- 0 to 16 literals, each one that may stand there.
pub record UpTo16 (May : ℕ → Type 0) (literals : List ℕ) : Type 0 where
  pub few : length literals ≤ 16
  pub listed : All May literals

-- A query: each below 4n.
abbrev pub ValidQuery : ℕ → List ℕ → Type 0
ValidQuery n = UpTo16 (◌< 4 * n)

-- Card 5: in a body each is below 4n, or FFFF.
abbrev pub InBody : ℕ → ℕ → Type 0
InBody n l = (l < 4 * n) ⊎ (l ≡ 0xFFFF)

abbrev pub ValidBody : ℕ → List ℕ → Type 0
ValidBody n = UpTo16 (InBody n)

-- A rule: a head below falsum, 2n, that is no abducible or its negation, and a body.
pub record ValidRule (n : ℕ) (abducibles : List ℕ) (r : Rule) : Type 0 where
  pub listed : r.head < falsum n
  pub free : is_among abducibles (atom_number r.head) ≡ false
  pub body : ValidBody n r.body

pub record Valid (p : Program) : Type 0 where
  pub some_atoms : 1 ≤ p.atoms
  pub few_atoms : p.atoms ≤ 256
  pub few_abducibles : length p.abducibles ≤ 16
  pub abducibles_listed : All (◌< p.atoms) p.abducibles
  pub abducibles_rising : Rising 0 p.abducibles
  pub few_rules : length p.rules ≤ 1024
  pub rules : All (ValidRule p.atoms p.abducibles) p.rules
  pub few_integrity : length p.integrity ≤ 256
  pub integrity : All (ValidBody p.atoms) p.integrity
