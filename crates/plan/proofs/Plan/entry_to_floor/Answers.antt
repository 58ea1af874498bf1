use Rattle.std.proofs.Common.{sym, refl, subst, arith}
use Rattle.plan.specs.Invariant.{Sound}
use Rattle.plan.proofs.Laws.{laws_of}
use Rattle.plan.proofs.SweptTables.{moved_to_floor_swept}
use Rattle.plan.proofs.Plan.entry_to_floor.Goals as goal

pub invariant_of-self : goal.invariant_of-self
invariant_of-self g c =
    let x = c.args.self.now in
    let law = laws_of g.met.S.Scale.lawful x in
    let least = c.own_least-least.ensures.is_the_least in
    let swept = moved_to_floor_swept law x.tables x.sound refl c.own_least-least.result c.args.entry c.requires.there (omega arith) in
    record { sound = subst Sound (sym c.move_to_floor.ensures.moves_it) swept.sound }
