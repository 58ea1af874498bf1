use Rattle.std.proofs.Common.{◌≡◌, false, length, None}
use Rattle.plan.specs.Faults.{first_fault, record_fault}
use Rattle.plan.specs.Records.{pair_met, cell_met, pairs_of}
use Rattle.plan.proofs.lists.Lists.check_records.Given as goal

-- whether an earlier record is of the pair of r is known, and none names its cell
abbrev pub invariant-loop-s : goal.invariant-loop-s
invariant-loop-s l = record {
  is_known : l.known ≡ pair_met l.self.records.now l.s-index l.r.entry l.r.other;
  once : cell_met l.self.records.now l.s-index l.r.entry l.r.candidate l.r.other l.r.choice ≡ false;
}

-- no record before i has a fault, and pairs counts their pairs
abbrev pub invariant-loop-i : goal.invariant-loop-i
invariant-loop-i l = record {
  many : l.pairs ≡ length (pairs_of l.self.records.now l.i);
  none : first_fault (record_fault l.self.ceiling l.self.counts.now l.self.records.now) l.i ≡ None;
}
