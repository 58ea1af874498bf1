use Rattle.std.proofs.Common.{◌≡◌, string_bytes, take, fold}
use Rattle.report.proofs.SweepLines.{with_candidate}
use Rattle.report.proofs.sweeps.push_candidates.Given as goal

-- the lines of the candidates so far are written
abbrev pub invariant-loop-entry : goal.invariant-loop-entry
invariant-loop-entry g l =
    let line = with_candidate l.name l.made l.plan.tables in
    string_bytes l.out
    ≡ fold line (string_bytes l.initial.out) (take l.entry-index l.entry-items)
