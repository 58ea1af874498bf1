use Rattle.std.proofs.Common.{◌≡◌, false}
use Rattle.plan.specs.Plans.{at_ceiling, KeepsFrame}
use Rattle.plan.specs.Settling.{after_sweeps}
use Rattle.plan.proofs.Plan.settled.Given as goal

abbrev pub invariant-loop-made : goal.invariant-loop-made
invariant-loop-made g l =
    let x = l.initial.self in
    (after_sweeps (at_ceiling g.S.Scale.join x) (at_ceiling g.S.Scale.rest x) l.made x.tables ≡ record { made = l.made; stable = false; tables = l.self.tables })
    × KeepsFrame x l.self
