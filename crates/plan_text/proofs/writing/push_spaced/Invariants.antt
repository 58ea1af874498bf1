use Rattle.std.proofs.Common.{◌≡◌, ◌++◌, drop, string_bytes}
use Rattle.plan_text.specs.Rows.{spaced, under_column}
use Rattle.plan_text.proofs.writing.push_spaced.Given as goal

-- what is written, with what is still to come, is the whole
abbrev pub invariant-loop-column : goal.invariant-loop-column
invariant-loop-column l =
    string_bytes l.out ++ spaced (under_column l.row) (drop l.column-index l.order)
    ≡ string_bytes l.initial.out ++ spaced (under_column l.row) l.order
