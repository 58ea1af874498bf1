use Rattle.std.proofs.Common.{◌≡◌, drop}
use Rattle.plan.specs.Filling.{start, own_rows, with_own}
use Rattle.plan.proofs.tables.Entries.write_own.Given as goal

abbrev pub invariant-loop-e : goal.invariant-loop-e
invariant-loop-e l = record {
  rows : l.self ≡ with_own l.initial.self (own_rows l.counts l.own l.e l.initial.self.own);
  rest : l.rest ≡ drop (start l.counts l.e) l.own;
}
