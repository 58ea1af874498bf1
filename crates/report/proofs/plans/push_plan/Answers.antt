use Rattle.std.proofs.Common.{string_bytes}
use Rattle.report.proofs.FilledSamples.{filled_sample}
use Rattle.report.proofs.plans.push_plan.Goals as goal

pub returns-in-Ok : goal.returns-in-Ok
returns-in-Ok g c =
    let join = g.S.Scale.join c.args.scale in
    let plan = c.in-Ok.plan in
    let lines = filled_sample c.args.name.now join c.args.ceiling (string_bytes c.args.out.now)
    plan.tables c.in-Ok.ensures.answers c.in-Ok.ensures.is_filled in
    record {
      adds_the_lines =
          rw (lines, ← c.in-Ok.ensures.is_on_the_scale) c.push_tunings.ensures.adds_the_lines;
    }
