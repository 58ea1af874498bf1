use Rattle.report.proofs.Tunings.{with_line, one_line_more}
use Rattle.report.proofs.plans.push_tunings.Goals as goal

pub loop-a-preserved : goal.loop-a-preserved
loop-a-preserved g c =
    let plan = c.args.plan.now in
    let join = g.S.Scale.join plan.scale plan.tables.limits.ceiling in
    one_line_more (with_line c.args.name.now join plan.tables) _ _ _ _ c.loop-a.a-index
    c.loop-a-test.true c.loop-a.invariant c.in_ok-push_tuning.ensures.adds_its_line
