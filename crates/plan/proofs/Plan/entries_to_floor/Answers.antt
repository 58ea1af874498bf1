use Rattle.std.proofs.Common.{ℕ}
use Rattle.plan.specs.Sweeps.{entry_to_floor}
use Rattle.plan.proofs.Turns.{next_turn}
use Rattle.plan.proofs.Plan.entries_to_floor.Goals as goal

pub loop-e-preserved : goal.loop-e-preserved
loop-e-preserved g c =
    next_turn (λ s (d : ℕ). entry_to_floor (g.S.Scale.join s d) (g.S.Scale.rest s d)) c.args.self.now c.loop-e.self c.entry_to_floor.new.self c.loop-e.e
    c.loop-e.invariant.0 c.loop-e.invariant.1 c.entry_to_floor.ensures.moves_it c.entry_to_floor.ensures.keeps_its_frame
