-- What no call may lose: a tuning that costs less than the bound.
use Rattle.std.specs.Prelude.{◌≡◌, ℕ, ◌≤◌, List}
use Rattle.plan.specs.declared.tables.Tables.{Tables}
use Rattle.plan.specs.Costs.{cost}
use Rattle.plan.specs.Tunings.{OpenTuning}

-- From x to y the ceiling stays and the bound does not rise. Each tuning that is open in y was open in x and costs the
-- same, and each that was open in x and is no more costs at least the bound of y.
pub record Keeps (join : ℕ → ℕ → ℕ) (x y : Tables) : Type 0 where
  pub same_ceiling : y.limits.ceiling ≡ x.limits.ceiling
  pub bound_not_raised : y.limits.bound ≤ x.limits.bound
  pub never_reopened : (t : List ℕ) → OpenTuning y t → OpenTuning x t
  pub open_costs_stay : (t : List ℕ) → OpenTuning y t → cost join y t ≡ cost join x t
  pub closed_cost_the_bound : (t : List ℕ) → OpenTuning x t → (OpenTuning y t → ⊥) → y.limits.bound ≤ cost join x t
