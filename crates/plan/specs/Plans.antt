-- A plan's scale at the plan's ceiling, and what of a plan a sweep leaves as it was.
use Rattle.std.specs.Prelude.{◌≡◌, ℕ}
use Rattle.plan.specs.declared.Plan.{Plan}
use Rattle.plan.specs.Sweeps.{frame}

-- what the scale's join, or its rest, is at the ceiling of the plan
abbrev pub at_ceiling : {S : Type 0} → (S → ℕ → ℕ → ℕ → ℕ) → Plan S → ℕ → ℕ → ℕ
at_ceiling way plan = way plan.scale plan.tables.limits.ceiling

-- from one plan to the other at most the floor, own penalties, cells and marks change
pub record KeepsFrame {S : Type 0} (old new : Plan S) : Type 0 where
  pub same_scale : new.scale ≡ old.scale
  pub same_frame : frame new.tables ≡ frame old.tables
