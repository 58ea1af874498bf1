use Rattle.std.proofs.Common.{◌≡◌, ◌++◌, drop, string_bytes}
use Rattle.plan_text.specs.Rows.{pair_texts}
use Rattle.plan_text.proofs.writing.push_pairs.Given as goal

-- what is written, with the lines that are still to come, is the whole
abbrev pub invariant-loop-pair : goal.invariant-loop-pair
invariant-loop-pair l =
    string_bytes l.out ++ pair_texts l.order (drop l.pair-index l.pairs)
    ≡ string_bytes l.initial.out ++ pair_texts l.order l.pairs
