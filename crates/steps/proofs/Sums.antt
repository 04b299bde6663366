-- Sums over the numbers below n: in two parts, equal and bounded.
-- Assumes nothing.
use mathlib.Core.Path.{◌≡◌, refl, sym}
use Prim.Native.Nat.{ℕ, zero, suc, ◌+◌, ◌*◌, ◌<◌, ◌≤◌}
use native.Mathlib.Omega.{arith}
use native.Mathlib.Nat.{add-zero, add-suc, add_assoc, mul-suc}
use Rattle.steps.specs.Explanations.{Problem, sum_below, rounds_from}

pub sum_add : (f : ℕ → ℕ) (a b : ℕ) → sum_below (a + b) f ≡ sum_below a f + sum_below b (λ i. f (a + i))
unfolding sum_below
sum_add f a zero = rw (add-zero a) (sym (add-zero (sum_below a f)))
sum_add f a (suc b) = rw (add-suc a b, sum_add f a b) (add_assoc (sum_below a f) (sum_below b (λ i. f (a + i))) (f (a + b)))

-- The rounds below p, then those of the m scenarios from p on.
pub sum_rounds : (P : Problem) (p m : ℕ) → sum_below (p + m) P.rounds ≡ sum_below p P.rounds + sum_below m (rounds_from P p)
sum_rounds P p m = sum_add P.rounds p m

pub sum_same : (n : ℕ) (f g : ℕ → ℕ) → ((i : ℕ) → i < n → f i ≡ g i) → sum_below n f ≡ sum_below n g
unfolding sum_below
sum_same zero f g h = refl
sum_same (suc n) f g h = rw (sum_same n f g (λ i l. h i (omega arith)), h n (omega arith))

pub sum_bound : (n : ℕ) (f : ℕ → ℕ) (b : ℕ) → ((i : ℕ) → i < n → f i ≤ b) → sum_below n f ≤ b * n
unfolding sum_below
sum_bound zero f b h = omega arith
sum_bound (suc n) f b h =
    let ih = sum_bound n f b (λ i g. h i (omega arith)) in
    let last = h n (omega arith) in
    let e : b * suc n ≡ b * n + b = mul-suc b n in
    omega arith
