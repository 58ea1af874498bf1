-- The sum scale: penalties add up, and what has reached the ceiling stays there.
use Rattle.std.specs.Prelude.{ℕ, ◌+◌, ◌-◌, min, if◌then◌else◌, nat_lt}

-- the smaller of the ceiling and the sum
abbrev pub sum_join : ℕ → ℕ → ℕ → ℕ
sum_join c a b = min c (a + b)

-- a less b, and 0 where b is above a; but a penalty at the ceiling keeps it, whatever is taken off
abbrev pub sum_rest : ℕ → ℕ → ℕ → ℕ
sum_rest c a b = if nat_lt a c then a - b else c
