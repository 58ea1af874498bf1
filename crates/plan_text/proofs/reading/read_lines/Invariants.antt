use Rattle.std.proofs.Common.{◌+◌}
use Rattle.std.specs.Iterator.Adapters.{enumerate_source, enumerate_count}
use Rattle.std.specs.Slice.Iter.{split_inclusive_rest}
use Rattle.plan_text.proofs.Texts.{LinesRead}
use Rattle.plan_text.proofs.reading.read_lines.Given as goal

abbrev pub invariant-loop-index : goal.invariant-loop-index
invariant-loop-index l =
    LinesRead l.order l.lines (enumerate_count l.index-iterator + 2) l.lists
    (split_inclusive_rest (enumerate_source l.index-iterator))
