use Rattle.std.proofs.Common.{◌≡◌, None}
use Rattle.plan.specs.Faults.{first_fault, penalty_fault}
use Rattle.plan.proofs.lists.Lists.check_own.Given as goal

abbrev pub invariant-loop-place : goal.invariant-loop-place
invariant-loop-place l = first_fault (penalty_fault l.self.ceiling l.self.own.now) l.place ≡ None
