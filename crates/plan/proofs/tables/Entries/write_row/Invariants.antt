use Rattle.std.proofs.Common.{◌≡◌, ◌*◌, slice_index}
use Rattle.plan.specs.Filling.{with_own}
use Rattle.plan.specs.Layout.{written_from}
use Rattle.plan.proofs.tables.Entries.write_row.Given as goal

abbrev pub invariant-loop-c : goal.invariant-loop-c
invariant-loop-c l = l.self ≡ with_own l.initial.self (written_from (8 * l.e) (λ c. slice_index l.row c) l.c l.initial.self.own)
