use Rattle.report.proofs.SweepLines.{with_candidate}
use Rattle.report.proofs.Tunings.{one_line_more}
use Rattle.report.proofs.sweeps.push_candidates.Goals as goal

pub loop-entry-preserved : goal.loop-entry-preserved
loop-entry-preserved g c =
    one_line_more (with_candidate c.args.name.now c.args.made c.args.plan.now.tables) _ _ _ _
    c.loop-entry.entry-index c.loop-entry-test.true c.loop-entry.invariant
    c.in_ok-push_candidate.ensures.adds_its_line
