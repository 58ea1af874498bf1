use Rattle.std.proofs.Common.{◌≡◌, ◌++◌, drop, string_bytes}
use Rattle.plan_text.specs.Rows.{entry_texts}
use Rattle.plan_text.proofs.writing.push_entry.Given as goal

-- what is written, with the lines that are still to come, is the whole
abbrev pub invariant-loop-candidate : goal.invariant-loop-candidate
invariant-loop-candidate l =
    string_bytes l.out ++ entry_texts l.order l.entry l.candidate (drop l.candidate l.own)
    ≡ string_bytes l.initial.out ++ entry_texts l.order l.entry 0 l.own
