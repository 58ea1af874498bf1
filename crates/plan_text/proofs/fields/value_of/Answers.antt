use Rattle.std.proofs.Common.{◌^◌, ◌<◌, Some, sym, refl, rules, tests, arith}
use Rattle.std.proofs.lemmas.Fn.{serves_by}
use Rattle.std.proofs.lemmas.Iterator.{YieldsList-from_slice}
use Rattle.std.proofs.lemmas.Iterator.Consumers.{YieldsList-turn}
use Rattle.plan_text.proofs.Digits.{Read, bytes, room, turn, folded}
use Rattle.plan_text.proofs.fields.value_of.Goals as goal

pub try_fold-requires-clause-callable : goal.try_fold-requires-clause-callable
try_fold-requires-clause-callable c =
    let field = c.args.field.now in
    let shape = sym c.if-not-is_shaped.ensures.is_shaped in
    let road = YieldsList-from_slice {s = c.iter.result} field cc in
    serves_by _ (λ bs p. Read (bytes bs) p.1) (turn _ (λ f n b v f' k. search (rules, tests)))
    _ _ _ _ (record { digits = refl; writes = refl })
    (λ bs s p b u given next read.
    let here = YieldsList-turn road bs s given (Some b) u b refl next in
    let small : p.1 < 10 ^ 7 = room field shape bs p.1 read here.0 in
    search arith)

pub returns : goal.returns
returns c =
    let shape = sym c.if-not-is_shaped.ensures.is_shaped in
    let rest = c.iter.ensures.rest in
    record {
      is_its_value =
          folded _ (λ f n b v f' k. search (rules, tests)) c.args.field.now c.iter.result _ _ _
          rest shape c.try_fold.ensures.ran;
    }
