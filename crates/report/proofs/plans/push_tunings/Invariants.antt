use Rattle.std.proofs.Common.{◌≡◌, string_bytes, take, fold}
use Rattle.report.proofs.Tunings.{with_line}
use Rattle.report.proofs.plans.push_tunings.Given as goal

-- the lines of the tunings so far are written
abbrev pub invariant-loop-a : goal.invariant-loop-a
invariant-loop-a g l =
    let join = g.S.Scale.join l.plan.scale l.plan.tables.limits.ceiling in
    let line = with_line l.name join l.plan.tables in
    string_bytes l.out ≡ fold line (string_bytes l.initial.out) (take l.a-index l.a-items)
