use Rattle.std.proofs.Common.{◌≡◌}
use Rattle.plan.specs.Plans.{at_ceiling, KeepsFrame}
use Rattle.plan.specs.Sweeps.{in_turn, entry_closed}
use Rattle.plan.proofs.Plan.close_entries.Given as goal

abbrev pub invariant-loop-e : goal.invariant-loop-e
invariant-loop-e g l =
    let x = l.initial.self in
    (l.self.tables ≡ in_turn (entry_closed (at_ceiling g.S.Scale.join x)) l.e x.tables) × KeepsFrame x l.self
