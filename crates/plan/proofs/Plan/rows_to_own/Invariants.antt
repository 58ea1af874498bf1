use Rattle.std.proofs.Common.{◌≡◌}
use Rattle.plan.specs.Plans.{at_ceiling, KeepsFrame}
use Rattle.plan.specs.Sweeps.{in_turn, row_to_own}
use Rattle.plan.proofs.Plan.rows_to_own.Given as goal

abbrev pub invariant-loop-candidate : goal.invariant-loop-candidate
invariant-loop-candidate g l =
    let x = l.initial.self in
    (l.self.tables ≡ in_turn (row_to_own (at_ceiling g.S.Scale.join x) (at_ceiling g.S.Scale.rest x) l.e l.pair) l.candidate x.tables) × KeepsFrame x l.self
