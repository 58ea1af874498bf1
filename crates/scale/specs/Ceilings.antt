-- The ceiling of a scale, which no penalty passes.
use Rattle.std.specs.Prelude.{ℕ, min}

-- the highest ceiling there is
abbrev pub highest : ℕ
highest = 1000000

-- the ceiling that counts where c is given: above the highest, the highest
abbrev pub effective : ℕ → ℕ
effective c = min c highest

-- the penalty that counts where a is given: above the ceiling, the ceiling
abbrev pub capped : ℕ → ℕ → ℕ
capped c a = min a (effective c)

-- a formula for penalties from 0 to a ceiling, at every ceiling and every two numbers
abbrev pub clamped : (ℕ → ℕ → ℕ → ℕ) → ℕ → ℕ → ℕ → ℕ
clamped f c a b = f (effective c) (capped c a) (capped c b)
