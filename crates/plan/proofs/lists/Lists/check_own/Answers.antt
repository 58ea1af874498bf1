use Rattle.std.proofs.Common.{◌≡◌, Some, length, arith}
use Rattle.std.proofs.lemmas.Bool.Decides.{nat_tests}
use Rattle.plan.specs.declared.refusals.Refusal.TheVariants.{PointsAboveCeiling}
use Rattle.plan.specs.Faults.{penalty_fault}
use Rattle.plan.proofs.Firsts.{first_here}
use Rattle.plan.proofs.lists.Lists.check_own.Goals as goal

pub returns-then-is_above : goal.returns-then-is_above
returns-then-is_above c =
    let own = c.args.self.now.own.now in
    let test = penalty_fault c.args.self.now.ceiling own in
    let k = c.loop-place.place in
    let here : test k ≡ Some PointsAboveCeiling = grind (arith, nat_tests) in
    let first = first_here test (length own) k PointsAboveCeiling c.loop-place-test.true c.loop-place.invariant here in
    record { is_the_first_fault = grind (arith, nat_tests) }
