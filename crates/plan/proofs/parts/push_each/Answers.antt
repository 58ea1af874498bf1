use Rattle.std.proofs.Common.{[], ◌∷◌, map, append_assoc, arith}
use Rattle.std.specs.List.{range_with_len}
use Rattle.std.proofs.lemmas.List.FromFn.{map-range_with_len_more}
use Rattle.plan.proofs.parts.push_each.Goals as goal

pub loop-k-preserved : goal.loop-k-preserved
loop-k-preserved g c =
    let k = c.loop-k.k in (
      omega arith,
      λ f computes.
          let more = map-range_with_len_more f 0 k k (omega arith) in
          let value = computes k c.part.result c.loop-k-test.true c.part.ensures in
          let before = c.loop-k.invariant.1 f computes in
          let moved = append_assoc c.args.parts.now.items (map f (range_with_len 0 k)) (f k ∷ []) in
          cc,
    )
