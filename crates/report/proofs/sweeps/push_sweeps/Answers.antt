use Rattle.std.proofs.Common.{◌≡◌, ◌-◌, ◌∙◌, arith}
use Rattle.report.proofs.SweepLines.{no_sweep_more, one_sweep_more}
use Rattle.report.proofs.sweeps.push_sweeps.Goals as goal

pub returns-then-branch : goal.returns-then-branch
returns-then-branch g c =
    let join = g.S.Scale.join c.args.plan.now.scale in
    let rest = g.S.Scale.rest c.args.plan.now.scale in
    let loop = c.loop-made in
    let sweep = c.in_ok-push_sweep.ensures in
    let swept = rw loop.invariant.same_scale at sweep.sweeps in
    let more = one_sweep_more c.args.name.now join rest loop.made _ _ _ _ _ swept
    sweep.adds_the_lines sweep.says_whether_it_is_stable c.args.sweeps _ c.loop-made-test.true
    loop.invariant.to_come in
    record { adds_the_lines = rw c.if-branch.true at more }

pub loop-made-preserved : goal.loop-made-preserved
loop-made-preserved g c =
    let join = g.S.Scale.join c.args.plan.now.scale in
    let rest = g.S.Scale.rest c.args.plan.now.scale in
    let loop = c.loop-made in
    let sweep = c.in_ok-push_sweep.ensures in
    let swept = rw loop.invariant.same_scale at sweep.sweeps in
    let more = one_sweep_more c.args.name.now join rest loop.made _ _ _ _ _ swept
    sweep.adds_the_lines sweep.says_whether_it_is_stable c.args.sweeps _ c.loop-made-test.true
    loop.invariant.to_come in
    record {
      same_scale = sweep.keeps_its_scale ∙ loop.invariant.same_scale;
      to_come = rw c.if-branch.false at more;
    }

pub returns : goal.returns
returns g c =
    let join = g.S.Scale.join c.args.plan.now.scale in
    let rest = g.S.Scale.rest c.args.plan.now.scale in
    let loop = c.loop-made in
    let none : c.args.sweeps - loop.made ≡ 0 = omega arith in
    record {
      adds_the_lines =
          rw (no_sweep_more c.args.name.now join rest _ loop.made _ _ none)
          at loop.invariant.to_come;
    }
