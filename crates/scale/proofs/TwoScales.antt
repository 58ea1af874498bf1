-- What a list comes to on the sum scale and on the worst scale.
use Rattle.std.proofs.Common.{◌≡◌, ℕ, ◌+◌, ◌≤◌, min, max, List, [], ◌∷◌, fold, sum, arith}
use Rattle.std.proofs.lemmas.List.Sums.{sum_by-cons}
use Rattle.scale.specs.Ceilings.{effective, clamped}
use Rattle.scale.specs.Joins.{joined}
use Rattle.scale.specs.Sums.{sum_join}
use Rattle.scale.specs.Worsts.{worst_join, largest}

sum_from : (c s : ℕ) (xs : List ℕ) → s ≤ effective c → fold (clamped sum_join c) s xs ≡ min (effective c) (s + sum xs)
sum_from c s [] h = omega arith
sum_from c s (x ∷ xs) h =
    omega (arith, sum_from c (clamped sum_join c s x) xs (omega arith), sum_by-cons (λ (y : ℕ). y) x xs)

pub joined_sum : (c : ℕ) (xs : List ℕ) → joined (clamped sum_join c) xs ≡ min (effective c) (sum xs)
joined_sum c xs = omega (arith, sum_from c 0 xs (omega arith))

worst_from : (c s : ℕ) (xs : List ℕ) → s ≤ effective c → fold (clamped worst_join c) s xs ≡ min (effective c) (max s (largest xs))
worst_from c s [] h = omega arith
worst_from c s (x ∷ xs) h = omega (arith, worst_from c (clamped worst_join c s x) xs (omega arith))

pub joined_worst : (c : ℕ) (xs : List ℕ) → joined (clamped worst_join c) xs ≡ min (effective c) (largest xs)
joined_worst c xs = omega (arith, worst_from c 0 xs (omega arith))
