use Rattle.std.proofs.Common.{◌≡◌, None}
use Rattle.plan.specs.Faults.{first_fault, count_fault}
use Rattle.plan.proofs.lists.Lists.check_counts.Given as goal

abbrev pub invariant-loop-place : goal.invariant-loop-place
invariant-loop-place l = first_fault (count_fault l.self.counts.now) l.place ≡ None
