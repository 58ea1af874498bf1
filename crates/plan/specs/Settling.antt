-- Settling: sweeps, up to a number of them, until one changes nothing.
use Rattle.std.specs.Prelude.{ℕ, zero, suc, ◌+◌, Bool, true, false, if◌then◌else◌, ◌&&◌, Some, None, Ok, Err, Option, Result, ◌==◌, nat_eq, nat_le}
use Rattle.std.specs.Cmp.Lexicographic.{pointwise}
use Rattle.std.specs.Bool.{beq}
use Rattle.plan.specs.declared.refusals.Refusal.{Refusal}
use Rattle.plan.specs.declared.refusals.Refusal.TheVariants.{TooManySweeps}
use Rattle.plan.specs.declared.tables.Settled.{Settled}
use Rattle.plan.specs.declared.tables.Tables.{Tables}
use Rattle.plan.specs.Refusing.{unless_refused}
use Rattle.plan.specs.Sweeps.{sweep}

-- no number and no mark that a sweep may change differs
abbrev pub unchanged : Tables → Tables → Bool
unchanged x y =
    (x.limits.floor == y.limits.floor)
    && (pointwise nat_eq x.entries.own y.entries.own
    && (pointwise beq x.entries.marks y.entries.marks && pointwise nat_eq x.pairs.cells y.pairs.cells))

-- how far settling came: the sweeps made, whether the last changed nothing, and the tables
pub record Progress : Type 0 where
  pub made : ℕ
  pub stable : Bool
  pub tables : Tables

-- before the first sweep
abbrev pub not_begun : Tables → Progress
not_begun x = record { made = 0; stable = false; tables = x }

-- one sweep more
abbrev pub swept : (ℕ → ℕ → ℕ) → (ℕ → ℕ → ℕ) → Progress → Progress
swept join rest s = record { made = s.made + 1; stable = unchanged s.tables (sweep join rest s.tables); tables = sweep join rest s.tables }

-- more is done, unless the last sweep changed nothing
abbrev pub unless_stable : Bool → Progress → (Progress → Progress) → Progress
unless_stable true s more = s
unless_stable false s more = more s

-- one sweep more, unless the last changed nothing
abbrev pub one_more : (ℕ → ℕ → ℕ) → (ℕ → ℕ → ℕ) → Progress → Progress
one_more join rest s = unless_stable s.stable s (swept join rest)

-- up to n sweeps
abbrev pub after_sweeps : (ℕ → ℕ → ℕ) → (ℕ → ℕ → ℕ) → ℕ → Tables → Progress
after_sweeps join rest zero x = not_begun x
after_sweeps join rest (suc n) x = one_more join rest (after_sweeps join rest n x)

-- 0 to 16 sweeps are allowed
abbrev pub settle_refusal : ℕ → Option Refusal
settle_refusal n = if nat_le n 16 then None else Some TooManySweeps

-- what settling answers of it
abbrev pub as_settled : Progress → Settled
as_settled s = record { sweeps = s.made; stable = s.stable }

-- the answer to a refused settling, or to one that was made
abbrev pub settled_unless : Option Refusal → Settled → Result Settled Refusal
settled_unless None settled = Ok settled
settled_unless (Some why) settled = Err why

-- what settling answers, and what it leaves
abbrev pub settle_answer : (ℕ → ℕ → ℕ) → (ℕ → ℕ → ℕ) → Tables → ℕ → Result Settled Refusal
settle_answer join rest x n = settled_unless (settle_refusal n) (as_settled (after_sweeps join rest n x))

abbrev pub settle_after : (ℕ → ℕ → ℕ) → (ℕ → ℕ → ℕ) → Tables → ℕ → Tables
settle_after join rest x n = unless_refused (settle_refusal n) x (after_sweeps join rest n x).tables
