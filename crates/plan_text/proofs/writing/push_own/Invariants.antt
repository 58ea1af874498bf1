use Rattle.std.proofs.Common.{◌≡◌, ◌++◌, drop, string_bytes}
use Rattle.plan_text.specs.Rows.{own_texts}
use Rattle.plan_text.proofs.writing.push_own.Given as goal

-- what is written, with the lines that are still to come, is the whole
abbrev pub invariant-loop-entry : goal.invariant-loop-entry
invariant-loop-entry l =
    string_bytes l.out ++ own_texts l.order l.entry (drop l.entry l.counts) l.rest
    ≡ string_bytes l.initial.out ++ own_texts l.order 0 l.counts l.own
