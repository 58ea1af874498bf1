-- The joined penalty of a list of penalties.
use Rattle.std.specs.Prelude.{◌≡◌, ℕ, min, List, map, fold, sum}
use Rattle.std.specs.List.{range_with_len}
use Rattle.std.specs.List.Sorted.{IsPermutation}
use Rattle.scale.specs.Ceilings.{effective, clamped}
use Rattle.scale.specs.Sums.{sum_join}
use Rattle.scale.specs.Worsts.{worst_join, largest}

-- from 0 on, each penalty joined to what the ones before it came to
abbrev pub joined : (ℕ → ℕ → ℕ) → List ℕ → ℕ
joined join xs = fold join 0 xs

-- f 0, f 1, .., f (n - 1) joined
abbrev pub joined_over : (ℕ → ℕ → ℕ) → ℕ → (ℕ → ℕ) → ℕ
joined_over join n f = joined join (map f (range_with_len 0 n))

-- every reordering of the list joins to total
abbrev pub AnyOrderJoinsTo : ℕ → (ℕ → ℕ → ℕ) → List ℕ → Type 0
AnyOrderJoinsTo total join xs = (ys : List ℕ) → IsPermutation xs ys → joined join ys ≡ total

-- where the scale is the sum scale, total is the smaller of the ceiling and the plain sum
abbrev pub CappedSumOnTheSumScale : ℕ → (ℕ → ℕ → ℕ → ℕ) → ℕ → List ℕ → Type 0
CappedSumOnTheSumScale total join c xs = join ≡ clamped sum_join → total ≡ min (effective c) (sum xs)

-- where the scale is the worst scale, total is the largest penalty, at most the ceiling
abbrev pub LargestOnTheWorstScale : ℕ → (ℕ → ℕ → ℕ → ℕ) → ℕ → List ℕ → Type 0
LargestOnTheWorstScale total join c xs = join ≡ clamped worst_join → total ≡ min (effective c) (largest xs)
