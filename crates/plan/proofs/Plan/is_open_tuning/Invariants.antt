use Rattle.std.proofs.Common.{◌≡◌, true}
use Rattle.plan.specs.Tunings.{opens_first}
use Rattle.plan.proofs.Plan.is_open_tuning.Given as goal

abbrev pub invariant-loop-entry : goal.invariant-loop-entry
invariant-loop-entry g l = opens_first l.self.tables l.tuning l.entry ≡ true
