use Rattle.std.proofs.Common.{◌≡◌, ◌-◌, string_bytes}
use Rattle.report.specs.SweepReports.{sweep_lines}
use Rattle.report.proofs.sweeps.push_sweeps.Given as goal

-- what is written, with the lines of the sweeps that are still to come, is the whole
abbrev pub invariant-loop-made : goal.invariant-loop-made
invariant-loop-made g l =
    let join = g.S.Scale.join l.initial.plan.scale in
    let rest = g.S.Scale.rest l.initial.plan.scale in
    record {
      same_scale : l.plan.scale ≡ l.initial.plan.scale;
      to_come : sweep_lines l.name join rest (l.sweeps - l.made) l.made l.plan.tables (string_bytes l.out)
          ≡ sweep_lines l.name join rest l.sweeps 0 l.initial.plan.tables (string_bytes l.initial.out);
    }
