-- The laws of a plan's scale, at the plan's ceiling.
use Rattle.std.proofs.Common.{ℕ}
use Rattle.scale.specs.Ceilings.{effective}
use Rattle.scale.specs.Laws.{Lawful}
use Rattle.scale.proofs.JoinedLists.{lawful_at}
use Rattle.plan.specs.declared.Plan.{Plan}
use Rattle.plan.specs.Plans.{at_ceiling}

pub laws_of : {S : Type 0} {join rest : S → ℕ → ℕ → ℕ → ℕ} → ((s : S) (c : ℕ) → Lawful (effective c) (join s c) (rest s c)) → (plan : Plan S) →
    Lawful plan.tables.limits.ceiling (at_ceiling join plan) (at_ceiling rest plan)
laws_of {join = join} {rest = rest} lawful plan = lawful_at plan.tables.limits.ceiling (at_ceiling join plan) (at_ceiling rest plan) plan.sound.2.2 (lawful plan.scale plan.tables.limits.ceiling)
