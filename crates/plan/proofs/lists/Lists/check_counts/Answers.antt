use Rattle.std.proofs.Common.{◌≡◌, Some, length, arith}
use Rattle.std.proofs.lemmas.Bool.Decides.{nat_tests}
use Rattle.plan.specs.declared.refusals.Refusal.TheVariants.{CountOutOfRange}
use Rattle.plan.specs.Faults.{count_fault}
use Rattle.plan.proofs.Firsts.{first_here}
use Rattle.plan.proofs.lists.Lists.check_counts.Goals as goal

pub returns-then-not-is_count : goal.returns-then-not-is_count
returns-then-not-is_count c =
    let counts = c.args.self.now.counts.now in
    let k = c.loop-place.place in
    let here : count_fault counts k ≡ Some CountOutOfRange = grind (arith, nat_tests) in
    let first = first_here (count_fault counts) (length counts) k CountOutOfRange c.loop-place-test.true c.loop-place.invariant here in
    record { is_the_first_fault = grind (arith, nat_tests) }
