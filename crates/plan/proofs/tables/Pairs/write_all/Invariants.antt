use Rattle.std.proofs.Common.{◌≡◌}
use Rattle.plan.specs.Filling.{with_records}
use Rattle.plan.proofs.tables.Pairs.write_all.Given as goal

abbrev pub invariant-loop-record : goal.invariant-loop-record
invariant-loop-record l = l.self ≡ with_records l.records l.record-index l.initial.self
