use Rattle.std.proofs.Common.{◌+◌, vec_items, vec_len, vec_capacity}
use Rattle.std.specs.Iterator.Adapters.{enumerate_source, enumerate_count}
use Rattle.std.specs.Slice.Iter.{split_inclusive_rest}
use Rattle.report.proofs.Lines.{LinesRead}
use Rattle.report.proofs.read.read_penalties.Given as goal

abbrev pub invariant-loop-index : goal.invariant-loop-index
invariant-loop-index l =
    let lines = enumerate_source l.index-iterator in
    let penalties = l.penalties in
    LinesRead l.ceiling l.lines (enumerate_count l.index-iterator + 2) (vec_items penalties)
    (vec_len penalties) (vec_capacity penalties) (split_inclusive_rest lines)
