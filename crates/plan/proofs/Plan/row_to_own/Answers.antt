use Rattle.std.proofs.Common.{sym, refl, subst, arith}
use Rattle.plan.specs.Invariant.{Sound}
use Rattle.plan.proofs.Laws.{laws_of}
use Rattle.plan.proofs.SweptTables.{moved_to_own_swept}
use Rattle.plan.proofs.Plan.row_to_own.Goals as goal

pub invariant_of-self : goal.invariant_of-self
invariant_of-self g c =
    let x = c.args.self.now in
    let law = laws_of g.met.S.Scale.lawful x in
    let least = c.row_least.ensures.is_the_least in
    let swept = moved_to_own_swept law x.tables x.sound refl c.row_least.result c.args.entry c.args.pair c.args.candidate c.requires.there c.requires.at (omega arith) in
    record { sound = subst Sound (sym c.move_to_own.ensures.moves_it) swept.sound }
