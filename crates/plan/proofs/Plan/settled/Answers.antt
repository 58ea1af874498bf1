use Rattle.std.proofs.Common.{◌≡◌, ℕ, ◌+◌, false, refl, arith}
use Rattle.plan.specs.Plans.{at_ceiling}
use Rattle.plan.specs.Sweeps.{sweep}
use Rattle.plan.proofs.Laws.{laws_of}
use Rattle.plan.proofs.StableTables.{sweep_more, ends_stable, settles}
use Rattle.plan.proofs.Turns.{next_step, frame_on}
use Rattle.plan.proofs.Plan.settled.Goals as goal

pub returns-then-is_unchanged : goal.returns-then-is_unchanged
returns-then-is_unchanged g c =
    let x = c.args.self.now in
    let y = c.loop-made.self in
    let z = c.sweep.new.self in
    let swept = next_step (λ s (d : ℕ). sweep (g.S.Scale.join s d) (g.S.Scale.rest s d)) x y z y.tables refl c.loop-made.invariant.1 c.sweep.ensures.sweeps in
    let more = sweep_more (at_ceiling g.S.Scale.join x) (at_ceiling g.S.Scale.rest x) x.tables c.loop-made.made y.tables z.tables _ c.loop-made.invariant.0 swept c.if-is_unchanged.ensures.is_so in
    let done = ends_stable (at_ceiling g.S.Scale.join x) (at_ceiling g.S.Scale.rest x) x.tables (c.loop-made.made + 1) c.args.sweeps _ (omega arith) more refl in
    let all = settles (laws_of g.met.S.Scale.lawful x) x.tables x.sound refl c.args.sweeps z.tables _ done in
    let keeps = frame_on x y z c.loop-made.invariant.1 c.sweep.ensures.keeps_its_frame in
    record {
      answers = all.answers;
      leaves = all.leaves;
      keeps_its_scale = keeps.same_scale;
      keeps_the_hand = all.same_hand;
      keeps_every_cheap_tuning = all.keeps;
      stable_where_a_sweep_changes_nothing = all.stable_stays;
    }

pub returns-clause-keeps_every_cheap_tuning : goal.returns-clause-keeps_every_cheap_tuning
returns-clause-keeps_every_cheap_tuning g c =
    let x = c.args.self.now in
    let end : c.loop-made.made ≡ c.args.sweeps = omega arith in
    (settles (laws_of g.met.S.Scale.lawful x) x.tables x.sound refl c.args.sweeps c.loop-made.self.tables (record { sweeps = c.args.sweeps; stable = false }) (rw end at c.loop-made.invariant.0)).keeps
