use Rattle.std.proofs.Common.{◌≡◌}
use Rattle.plan.specs.Plans.{at_ceiling, KeepsFrame}
use Rattle.plan.specs.Closing.{close_after}
use Rattle.plan.specs.Sweeps.{in_turn}
use Rattle.plan.proofs.Plan.close_entry.Given as goal

abbrev pub invariant-loop-candidate : goal.invariant-loop-candidate
invariant-loop-candidate g l =
    let x = l.initial.self in
    (l.self.tables ≡ in_turn (λ k y. close_after (at_ceiling g.S.Scale.join x) y l.e k) l.candidate x.tables) × KeepsFrame x l.self
