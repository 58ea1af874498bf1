use Rattle.std.proofs.Common.{refl}
use Rattle.plan.proofs.Keepings.{close_kept}
use Rattle.plan.proofs.Laws.{laws_of}
use Rattle.plan.proofs.Plan.close.Goals as goal

pub returns-clause-keeps_every_cheap_tuning : goal.returns-clause-keeps_every_cheap_tuning
returns-clause-keeps_every_cheap_tuning g c =
    let x = c.args.self.now in
    rw c.put_closed.ensures.closes_it (close_kept (laws_of g.met.S.Scale.lawful x) x.tables c.args.entry c.args.candidate x.sound refl c.in_ok-check_close.ensures.is_the_first_refusal).keeps
