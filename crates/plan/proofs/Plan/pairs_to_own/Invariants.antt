use Rattle.std.proofs.Common.{◌≡◌}
use Rattle.plan.specs.Plans.{at_ceiling, KeepsFrame}
use Rattle.plan.specs.Sweeps.{in_turn, pair_to_own}
use Rattle.plan.proofs.Plan.pairs_to_own.Given as goal

abbrev pub invariant-loop-pair : goal.invariant-loop-pair
invariant-loop-pair g l =
    let x = l.initial.self in
    (l.self.tables ≡ in_turn (pair_to_own (at_ceiling g.S.Scale.join x) (at_ceiling g.S.Scale.rest x)) l.pair x.tables) × KeepsFrame x l.self
