use Rattle.std.proofs.Common.{◌≡◌, ◌++◌, drop, string_bytes}
use Rattle.report.specs.RowReports.{running_lines}
use Rattle.report.proofs.rows.push_running_lines.Given as goal

-- what is written, with the lines that are still to come, is the whole
abbrev pub invariant-loop-penalty : goal.invariant-loop-penalty
invariant-loop-penalty g l =
    let join = g.S.Scale.join l.scale l.ceiling in
    string_bytes l.out ++ running_lines l.name join l.total (drop l.penalty-index l.penalties)
    ≡ string_bytes l.initial.out ++ running_lines l.name join 0 l.penalties
