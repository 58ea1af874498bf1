-- Closing a candidate, and lowering the bound.
use Rattle.std.specs.Prelude.{ℕ, Bool, false, if◌then◌else◌, ◌&&◌, Some, None, Option, Result, nat_le, slice_set}
use Rattle.plan.specs.declared.refusals.Refusal.{Refusal}
use Rattle.plan.specs.declared.refusals.Refusal.TheVariants.{Absent, BoundOutOfRange, NotAllowed}
use Rattle.plan.specs.declared.tables.Tables.{Tables}
use Rattle.plan.specs.Layout.{candidate_place, is_open}
use Rattle.plan.specs.Refusing.{answered, unless_refused}
use Rattle.plan.specs.Weights.{weight}

-- a candidate may be closed when the floor joined with its weight is at least the bound
abbrev pub may_close : (ℕ → ℕ → ℕ) → Tables → ℕ → ℕ → Bool
may_close join x e c = nat_le x.limits.bound (join x.limits.floor (weight join x e c))

-- why it is not closed, if it is not
abbrev pub close_refusal : (ℕ → ℕ → ℕ) → Tables → ℕ → ℕ → Option Refusal
close_refusal join x e c = if is_open x e c then (if may_close join x e c then None else Some NotAllowed) else Some Absent

-- the candidate closed
abbrev pub with_closed : Tables → ℕ → ℕ → Tables
with_closed x e c = record {
  entries = record { number = x.entries.number; counts = x.entries.counts; own = x.entries.own; marks = slice_set x.entries.marks (candidate_place e c) false };
  pairs = x.pairs;
  limits = x.limits;
  hand = x.hand;
}

abbrev pub close_answer : (ℕ → ℕ → ℕ) → Tables → ℕ → ℕ → Result (Unit {0}) Refusal
close_answer join x e c = answered (close_refusal join x e c)

abbrev pub close_after : (ℕ → ℕ → ℕ) → Tables → ℕ → ℕ → Tables
close_after join x e c = unless_refused (close_refusal join x e c) x (with_closed x e c)

-- the bound is lowered to a number from 1 to the bound
abbrev pub lower_refusal : Tables → ℕ → Option Refusal
lower_refusal x b = if nat_le 1 b && nat_le b x.limits.bound then None else Some BoundOutOfRange

abbrev pub with_bound : Tables → ℕ → Tables
with_bound x b = record { entries = x.entries; pairs = x.pairs; limits = record { floor = x.limits.floor; ceiling = x.limits.ceiling; bound = b }; hand = x.hand }

abbrev pub lower_answer : Tables → ℕ → Result (Unit {0}) Refusal
lower_answer x b = answered (lower_refusal x b)

abbrev pub lower_after : Tables → ℕ → Tables
lower_after x b = unless_refused (lower_refusal x b) x (with_bound x b)
