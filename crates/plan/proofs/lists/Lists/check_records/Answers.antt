use Rattle.std.proofs.Common.{◌≡◌, ◌<◌, add-one, ◌∙◌, sym, Some, length, arith}
use Rattle.std.proofs.lemmas.List.{length-take-le, length_push, get_or-take}
use Rattle.std.proofs.lemmas.Bool.{or_right, or_from, and_left}
use Rattle.std.proofs.lemmas.Bool.Decides.{nat_tests}
use Rattle.plan.specs.declared.refusals.Refusal.TheVariants.{RepeatedCell, TooManyPairs}
use Rattle.plan.specs.Faults.{record_fault}
use Rattle.plan.proofs.Firsts.{first_here}
use Rattle.plan.proofs.MetRecords.{repeated_by}
use Rattle.plan.proofs.lists.Lists.check_records.Goals as goal
use Rattle.plan.proofs.lists.Lists.check_records.Goals.{then-same_pair+else-same_cell, else-same_pair}

pub returns-in-Err : goal.returns-in-Err
returns-in-Err c =
    let rs = c.args.self.now.records.now in
    let test = record_fault c.args.self.now.ceiling c.args.self.now.counts.now rs in
    let here : test c.loop-i.i ≡ Some c.in-Err.refusal = grind (arith, nat_tests) in
    let first = first_here test (length rs) c.loop-i.i c.in-Err.refusal c.loop-i-test.true c.loop-i.invariant.none here in
    record { is_the_first_fault = grind (arith, nat_tests) }

pub returns-then-same_cell : goal.returns-then-same_cell
returns-then-same_cell c =
    let rs = c.args.self.now.records.now in
    let test = record_fault c.args.self.now.ceiling c.args.self.now.counts.now rs in
    let i = c.loop-i.i in
    let low : c.loop-s.s-index < i = omega (arith, length-take-le i rs) in
    let same = rw get_or-take at c.if-same_cell.ensures.is_so in
    let twice = repeated_by rs c.loop-s.s-index i low (sym same) in
    let here : test c.loop-i.i ≡ Some RepeatedCell = grind (arith, nat_tests) in
    let first = first_here test (length rs) c.loop-i.i RepeatedCell c.loop-i-test.true c.loop-i.invariant.none here in
    record { is_the_first_fault = grind (arith, nat_tests) }

pub returns-then-is_full : goal.returns-then-is_full
returns-then-is_full c =
    let rs = c.args.self.now.records.now in
    let test = record_fault c.args.self.now.ceiling c.args.self.now.counts.now rs in
    let at_end : c.loop-s.s-index ≡ c.loop-i.i = omega (arith, length-take-le c.loop-i.i rs) in
    let here : test c.loop-i.i ≡ Some TooManyPairs = grind (arith, nat_tests) in
    let first = first_here test (length rs) c.loop-i.i TooManyPairs c.loop-i-test.true c.loop-i.invariant.none here in
    record { is_the_first_fault = grind (arith, nat_tests) }

pub loop-s-preserved : goal.loop-s-preserved
loop-s-preserved c = let low : c.loop-s.s-index < c.loop-i.i = omega (arith, length-take-le c.loop-i.i c.args.self.now.records.now) in elim c.if-same_pair.branch [
  | then-same_pair+else-same_cell w ↦
      let pair = rw get_or-take at w.if-same_pair.ensures.is_so in
      let cell = rw get_or-take at w.if-same_cell.ensures.is_so in
      record { is_known = rw add-one (w.known-is ∙ sym (or_right _ _ (sym pair))); once = rw add-one (or_from _ _ c.loop-s.invariant.once (sym cell)) }
  | else-same_pair w ↦
      let pair = rw get_or-take at w.if-same_pair.ensures.is_so in
      record { is_known = rw add-one (grind (arith, nat_tests)); once = rw add-one (or_from _ _ c.loop-s.invariant.once (and_left _ _ (sym pair))) }
]

pub loop-i-preserved : goal.loop-i-preserved
loop-i-preserved c = grind (arith, nat_tests, length_push, length-take-le)
