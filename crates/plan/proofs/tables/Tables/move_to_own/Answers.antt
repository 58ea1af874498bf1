use Rattle.std.proofs.Common.{sym, refl, ap, ◌∙◌, subst}
use Rattle.scale.proofs.JoinedLists.{lawful_at}
use Rattle.plan.specs.declared.tables.Tables.{Tables}
use Rattle.plan.specs.Invariant.{Sound}
use Rattle.plan.specs.Layout.{is_there}
use Rattle.plan.proofs.SweptTables.{taken_sound}
use Rattle.plan.proofs.tables.Tables.move_to_own.Goals as goal

pub join_to-requires : goal.join_to-requires
join_to-requires g c =
    let x = c.args.self.now in
    let can = c.requires.can in
    let m = c.args.moved in
    let scale = c.args.scale.now in
    let ceiling = x.limits.ceiling in
    let law = lawful_at ceiling (g.S.Scale.join scale ceiling) (g.S.Scale.rest scale ceiling) can.sound.2.2 (g.met.S.Scale.lawful scale ceiling) in
    let is = c.take_off.ensures.takes_it_off in
    record {
      can = record {
        sound = subst Sound (sym is) (taken_sound law x can.sound m.amount m.entry c.args.pair m.candidate);
        there = ap (λ (y : Tables). is_there y m.entry m.candidate) is ∙ can.there;
        at = refl;
      };
    }
