use Rattle.plan_text.proofs.filling.fill_from_text.Goals as goal

pub returns-clause-every_tuning_costs_its_filled_cost :
    goal.returns-clause-every_tuning_costs_its_filled_cost
returns-clause-every_tuning_costs_its_filled_cost g c =
    rw (← c.in_ok-lists.ensures.reads_what_the_text_says, ← c.deref.ensures.value, ← c.deref-2.ensures.value, ← c.deref-3.ensures.value)
    c.in_ok-fill.ensures.every_tuning_costs_its_filled_cost
