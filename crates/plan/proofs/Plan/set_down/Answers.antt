use Rattle.std.proofs.Common.{refl, ap, ◌∙◌}
use Rattle.plan.specs.declared.tables.Hand.{Hand}
use Rattle.plan.specs.Lifting.{set_down_in}
use Rattle.plan.specs.Plans.{at_ceiling}
use Rattle.plan.proofs.Keepings.{kept_as}
use Rattle.plan.proofs.Laws.{laws_of}
use Rattle.plan.proofs.Transfers.{set_kept}
use Rattle.plan.proofs.Plan.set_down.Goals as goal

pub invariant_of-self : goal.invariant_of-self
invariant_of-self g c =
    let x = c.args.self.now in
    let t = c.args.token.held in
    let kept = set_kept (laws_of g.met.S.Scale.lawful x) x.tables x.sound refl t.entry t.candidate t.amount c.args.to c.in_default.ensures.is_the_first_refusal in
    let is = c.put_down.ensures.sets_it_down ∙ ap (λ (h : Hand). set_down_in (at_ceiling g.S.Scale.join x) x.tables h.entry h.candidate h.amount c.args.to) c.holds.ensures.is_what_it_holds in
    record { sound = (kept_as _ _ _ _ kept is).sound }

pub returns-clause-keeps_every_cheap_tuning : goal.returns-clause-keeps_every_cheap_tuning
returns-clause-keeps_every_cheap_tuning g c =
    let x = c.args.self.now in
    let t = c.args.token.held in
    let kept = set_kept (laws_of g.met.S.Scale.lawful x) x.tables x.sound refl t.entry t.candidate t.amount c.args.to c.in_default.ensures.is_the_first_refusal in
    let is = c.put_down.ensures.sets_it_down ∙ ap (λ (h : Hand). set_down_in (at_ceiling g.S.Scale.join x) x.tables h.entry h.candidate h.amount c.args.to) c.holds.ensures.is_what_it_holds in
    (kept_as _ _ _ _ kept is).keeps
