-- Lists of calls, and what holds after any of them.
use Rattle.std.specs.Prelude.{◌≡◌, ℕ, ◌≤◌, List, [], ◌∷◌}
use Rattle.plan.specs.declared.place.Place.{Place}
use Rattle.plan.specs.declared.records.PairRecord.{PairRecord}
use Rattle.plan.specs.declared.tables.Tables.{Tables}
use Rattle.plan.specs.Closing.{close_after, lower_after}
use Rattle.plan.specs.Costs.{cost}
use Rattle.plan.specs.Fillable.{ListedTuning, filled_cost}
use Rattle.plan.specs.Lifting.{lift_after, set_after}
use Rattle.plan.specs.Settling.{settle_after}
use Rattle.plan.specs.Tunings.{OpenTuning}

-- a call on a filled plan, with any numbers
pub data Call : Type 0 where
  closing : ℕ → ℕ → Call
  lowering : ℕ → Call
  lifting : Place → ℕ → ℕ → ℕ → Call
  setting_down : ℕ → ℕ → ℕ → Place → Call
  settling : ℕ → Call

-- what a call leaves, be it accepted or refused
abbrev pub after_call : (ℕ → ℕ → ℕ) → (ℕ → ℕ → ℕ) → Tables → Call → Tables
after_call join rest x (closing e c) = close_after join x e c
after_call join rest x (lowering b) = lower_after x b
after_call join rest x (lifting from e c amount) = lift_after rest x from e c amount
after_call join rest x (setting_down e c amount to) = set_after join x e c amount to
after_call join rest x (settling n) = settle_after join rest x n

-- what a list of calls leaves
abbrev pub played : (ℕ → ℕ → ℕ) → (ℕ → ℕ → ℕ) → Tables → List Call → Tables
played join rest x [] = x
played join rest x (call ∷ calls) = played join rest (after_call join rest x call) calls

-- every open tuning costs its filled cost, and the filled cost of every other tuning is at least the bound
pub record NoCheapTuningLost (join : ℕ → ℕ → ℕ) (counts own : List ℕ) (rs : List PairRecord) (x : Tables) : Type 0 where
  pub open_cost_their_filled_cost : (t : List ℕ) → OpenTuning x t → cost join x t ≡ filled_cost join counts own rs t
  pub others_cost_the_bound : (t : List ℕ) → ListedTuning counts t → (OpenTuning x t → ⊥) → x.limits.bound ≤ filled_cost join counts own rs t
