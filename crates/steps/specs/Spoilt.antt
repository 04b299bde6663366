-- Test 14, "spoilt search".
use Rattle.std.specs.Prelude.{Bool, true, not, List, [], ◌∷◌, ℕ, ◌+◌, leb, ltb, length, take}
use Rattle.papers.specs.Tests.{◌and◌, ◌or◌}
use Rattle.steps.specs.Explanations.{Problem, scenarios}
use Rattle.steps.specs.Continuing.{Record}

-- "Strictly rising": each above the one before, and the first at least `least`.
unfoldable pub rising : ℕ → List ℕ → Bool
rising least [] = true
rising least (entry ∷ more) = leb least entry and rising (entry + 1) more

-- "All below position."
unfoldable pub all_below : ℕ → List ℕ → Bool
all_below position [] = true
all_below position (entry ∷ more) = ltb entry position and all_below position more

-- 14: "position above 3^k, found above list length, or the first found entries not strictly rising or not all below position", where
-- 3^k is `total`.
unfoldable pub spoilt_by : ℕ → Record → List ℕ → Bool
spoilt_by total r list =
    ltb total r.position
    or (ltb (length list) r.found
    or (not (rising 0 (take r.found list))
    or not (all_below r.position (take r.found list))))

abbrev pub spoilt : Problem → Record → List ℕ → Bool
spoilt P = spoilt_by (scenarios P)
