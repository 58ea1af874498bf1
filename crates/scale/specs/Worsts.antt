-- The worst scale: the larger of two penalties counts.
use Rattle.std.specs.Prelude.{ℕ, max, if◌then◌else◌, List, [], ◌∷◌, nat_lt}

-- the larger of the two
abbrev pub worst_join : ℕ → ℕ → ℕ → ℕ
worst_join c a b = max a b

-- all of a, and 0 where b is above a
abbrev pub worst_rest : ℕ → ℕ → ℕ → ℕ
worst_rest c a b = if nat_lt a b then 0 else a

-- the largest of a list, 0 where it is empty
abbrev pub largest : List ℕ → ℕ
largest [] = 0
largest (x ∷ xs) = max x (largest xs)
