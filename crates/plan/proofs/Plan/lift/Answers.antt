use Rattle.std.proofs.Common.{refl}
use Rattle.plan.proofs.Keepings.{kept_as}
use Rattle.plan.proofs.Laws.{laws_of}
use Rattle.plan.proofs.Transfers.{lift_kept}
use Rattle.plan.proofs.Plan.lift.Goals as goal

pub invariant_of-self : goal.invariant_of-self
invariant_of-self g c =
    let x = c.args.self.now in
    let kept = lift_kept (laws_of g.met.S.Scale.lawful x) x.tables x.sound refl c.args.from c.args.entry c.args.candidate c.args.amount c.in_ok-check_lift.ensures.is_the_first_refusal in
    record { sound = (kept_as _ _ _ _ kept c.take_up.ensures.lifts_it).sound }

pub returns-clause-keeps_every_cheap_tuning : goal.returns-clause-keeps_every_cheap_tuning
returns-clause-keeps_every_cheap_tuning g c =
    let x = c.args.self.now in
    let kept = lift_kept (laws_of g.met.S.Scale.lawful x) x.tables x.sound refl c.args.from c.args.entry c.args.candidate c.args.amount c.in_ok-check_lift.ensures.is_the_first_refusal in
    (kept_as _ _ _ _ kept c.take_up.ensures.lifts_it).keeps
