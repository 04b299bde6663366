-- Both conjugates by the parity of a number. Nothing is defined by it: the laws `explicit_by_parity` and `default_by_parity` say that what is
-- defined by forms equals it for every literal that each conjugate takes.
use Rattle.std.specs.Prelude.{ℕ, ◌+◌, ◌-◌, ◌%◌, cond, eqb}

-- the other of 2k and 2k+1
unfoldable pub other_of_pair : ℕ → ℕ
other_of_pair x = cond (eqb (x % 2) 0) (x + 1) (x - 1)
