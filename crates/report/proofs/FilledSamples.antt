-- Where the sample is filled, its lines are those of the filled tables.
use Rattle.std.proofs.Common.{◌≡◌, ℕ, List, Some, None, Ok, Option, sym, ap}
use Rattle.plan.specs.declared.refusals.FillFault.{FillFault}
use Rattle.plan.specs.declared.tables.Tables.{Tables}
use Rattle.plan.specs.Faults.{fill_fault}
use Rattle.plan.specs.Filling.{filled_tables}
use Rattle.plan.specs.Fresh.{new_tables}
use Rattle.plan.specs.Refusing.{answered, unless_refused}
use Rattle.report.specs.PlanReports.{sample_counts, sample_own, sample_pairs, sample_answer, sample_after, tuning_lines, filled_lines, plan_lines}

abbrev filled : ℕ → Tables
filled c = filled_tables c sample_counts sample_own sample_pairs

module _ (name : List ℕ) (join : ℕ → ℕ → ℕ → ℕ) (c : ℕ) (before : List ℕ) (y : Tables) where
  by_fault : (o : Option FillFault) → Ok tt ≡ answered o → y ≡ unless_refused o new_tables (filled c) →
      filled_lines name (join c) (answered o) (unless_refused o new_tables (filled c)) before
      ≡ tuning_lines name (join y.limits.ceiling) y before
  by_fault None e h =
      ap (λ (z : Tables). tuning_lines name (join z.limits.ceiling) z before) (sym h)
  by_fault (Some f) e h = cc

  pub filled_sample : Ok tt ≡ sample_answer c → y ≡ sample_after c →
      plan_lines name join c before ≡ tuning_lines name (join y.limits.ceiling) y before
  filled_sample = by_fault (fill_fault new_tables c sample_counts sample_own sample_pairs)
