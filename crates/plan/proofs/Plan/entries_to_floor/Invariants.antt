use Rattle.std.proofs.Common.{◌≡◌}
use Rattle.plan.specs.Plans.{at_ceiling, KeepsFrame}
use Rattle.plan.specs.Sweeps.{in_turn, entry_to_floor}
use Rattle.plan.proofs.Plan.entries_to_floor.Given as goal

abbrev pub invariant-loop-e : goal.invariant-loop-e
invariant-loop-e g l =
    let x = l.initial.self in
    (l.self.tables ≡ in_turn (entry_to_floor (at_ceiling g.S.Scale.join x) (at_ceiling g.S.Scale.rest x)) l.e x.tables) × KeepsFrame x l.self
