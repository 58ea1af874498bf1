use Rattle.std.proofs.Common.{refl, ap, ◌∙◌}
use Rattle.scale.proofs.JoinedLists.{lawful_at}
use Rattle.plan.specs.declared.tables.Tables.{Tables}
use Rattle.plan.specs.Costs.{cost}
use Rattle.plan.specs.Filling.{filled_tables}
use Rattle.plan.specs.Histories.{played}
use Rattle.plan.proofs.FilledPlans.{filled_sound, open_as_listed, costs_filled}
use Rattle.plan.proofs.Playing.{none_lost, played_kept}
use Rattle.plan.proofs.Plan.fill.Goals as goal

pub invariant_of-self : goal.invariant_of-self
invariant_of-self g c =
    let fit = c.in_ok-check_fill.ensures.none_exactly_where_fillable.lists_fit in
    record { sound = rw c.tables-self.ensures.are_the_filled_tables (filled_sound c.args.ceiling c.args.counts.now c.args.own.now c.args.pairs.now fit) }

pub returns-clause-its_open_tunings_are_those_of_the_lists : goal.returns-clause-its_open_tunings_are_those_of_the_lists
returns-clause-its_open_tunings_are_those_of_the_lists g c =
    let fit = c.in_ok-check_fill.ensures.none_exactly_where_fillable.lists_fit in
    rw c.tables-self.ensures.are_the_filled_tables (open_as_listed c.args.ceiling c.args.counts.now c.args.own.now c.args.pairs.now fit)

pub returns-clause-every_tuning_costs_its_filled_cost : goal.returns-clause-every_tuning_costs_its_filled_cost
returns-clause-every_tuning_costs_its_filled_cost g c =
    let ceiling = c.args.ceiling in
    let scale = c.args.self.now.scale in
    let join = g.S.Scale.join scale ceiling in
    let fit = c.in_ok-check_fill.ensures.none_exactly_where_fillable.lists_fit in
    let law = lawful_at ceiling join (g.S.Scale.rest scale ceiling) fit.ceiling_high (g.met.S.Scale.lawful scale ceiling) in
    λ t tuning. ap (λ (x : Tables). cost join x t) c.tables-self.ensures.are_the_filled_tables
    ∙ costs_filled ceiling c.args.counts.now c.args.own.now c.args.pairs.now fit law t tuning

pub returns-clause-no_calls_lose_a_cheap_tuning : goal.returns-clause-no_calls_lose_a_cheap_tuning
returns-clause-no_calls_lose_a_cheap_tuning g c =
    let ceiling = c.args.ceiling in
    let counts = c.args.counts.now in
    let own = c.args.own.now in
    let rs = c.args.pairs.now in
    let scale = c.args.self.now.scale in
    let join = g.S.Scale.join scale ceiling in
    let rest = g.S.Scale.rest scale ceiling in
    let fit = c.in_ok-check_fill.ensures.none_exactly_where_fillable.lists_fit in
    let law = lawful_at ceiling join rest fit.ceiling_high (g.met.S.Scale.lawful scale ceiling) in
    let filled = filled_tables ceiling counts own rs in
    let sound = filled_sound ceiling counts own rs fit in
    let listed = open_as_listed ceiling counts own rs fit in
    let costs = costs_filled ceiling counts own rs fit law in
    rw c.tables-self.ensures.are_the_filled_tables (λ calls. none_lost join counts own rs filled (played join rest filled calls) listed costs (played_kept law filled calls sound refl).keeps)
