use Rattle.std.proofs.Common.{ℕ, ap, ◌∙◌}
use Rattle.plan.specs.Closing.{close_after}
use Rattle.plan.specs.Plans.{at_ceiling}
use Rattle.plan.specs.Sweeps.{frame}
use Rattle.plan.proofs.SweptTables.{closed_frame}
use Rattle.plan.proofs.Turns.{next_turn}
use Rattle.plan.proofs.Plan.close_entry.Goals as goal

pub loop-candidate-preserved : goal.loop-candidate-preserved
loop-candidate-preserved g c =
    let y = c.loop-candidate.self in
    let k = c.loop-candidate.candidate in
    next_turn (λ s (d : ℕ) (i : ℕ) t. close_after (g.S.Scale.join s d) t c.args.e i) c.args.self.now y c.close.new.self k
    c.loop-candidate.invariant.0 c.loop-candidate.invariant.1 c.close.ensures.leaves
    (record { same_scale = c.close.ensures.keeps_its_scale; same_frame = ap frame c.close.ensures.leaves ∙ closed_frame (at_ceiling g.S.Scale.join y) y.tables c.args.e k })
