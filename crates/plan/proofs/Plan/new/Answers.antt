use Rattle.std.proofs.Common.{arith}
use Rattle.plan.proofs.NewPlans.{empty_sound, empty_tuning}
use Rattle.plan.proofs.Plan.new.Goals as goal

-- whatever the ceiling is: that it is 1 is for the contract to say
pub invariant_of-result : goal.invariant_of-result
invariant_of-result g c = record { sound = rw c.empty.ensures.hold_nothing (empty_sound _ (omega arith) (omega arith)) }

pub returns-clause-its_one_tuning_is_empty_and_costs_zero : goal.returns-clause-its_one_tuning_is_empty_and_costs_zero
returns-clause-its_one_tuning_is_empty_and_costs_zero g c = rw c.empty.ensures.hold_nothing (empty_tuning (g.met.S.Scale.lawful c.args.scale _) _)
