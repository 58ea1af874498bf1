-- What a scale is: a way to join two penalties, and a way to take one off another.
use Rattle.std.specs.Prelude.{◌≡◌, ℕ, ◌<◌, ◌≤◌}
use Rattle.scale.specs.Ceilings.{capped, clamped}

-- Join and rest answer for every ceiling and every two numbers: a ceiling above the highest counts as the highest, a
-- penalty above the ceiling counts as the ceiling, and nothing is left of a after b where b is above a.
pub record Clamps (join rest : ℕ → ℕ → ℕ → ℕ) : Type 0 where
  pub join_clamps : (c a b : ℕ) → join c a b ≡ clamped join c a b
  pub rest_clamps : (c a b : ℕ) → rest c a b ≡ clamped rest c a b
  pub rest_of_less : (c a b : ℕ) → capped c a < capped c b → rest c a b ≡ 0

-- The laws at a ceiling c. They are meant of penalties from 0 to c, and a premise says so only where the law would fail
-- of larger numbers, which count as c.
pub record Lawful (c : ℕ) (join rest : ℕ → ℕ → ℕ) : Type 0 where
  pub bounded : (a b : ℕ) → join a b ≤ c
  pub commutative : (a b : ℕ) → join a b ≡ join b a
  pub neutral : (a : ℕ) → a ≤ c → join a 0 ≡ a
  pub associative : (a b d : ℕ) → join (join a b) d ≡ join a (join b d)
  pub monotone : (a b d : ℕ) → a ≤ b → join a d ≤ join b d
  pub rest_lowers : (a b : ℕ) → rest a b ≤ a
  pub rest_restores : (a b : ℕ) → a ≤ c → b ≤ a → join (rest a b) b ≡ a
