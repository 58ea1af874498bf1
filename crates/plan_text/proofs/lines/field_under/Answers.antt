use Rattle.std.proofs.Common.{◌∙◌, sym, ap, rules, tests}
use Rattle.std.proofs.lemmas.Iterator.{YieldsList-from_slice}
use Rattle.std.proofs.lemmas.Iterator.Search.{position_from_yields_List}
use denote.Enum.Bare.{sameb}
use Rattle.plan_text.specs.contracts.columns.Column.{the_type}
use Rattle.plan_text.specs.Lines.{field_at}
use Rattle.plan_text.proofs.Orders.{position_alike}
use Rattle.plan_text.proofs.lines.field_under.Goals as goal

pub returns-in-Some : goal.returns-in-Some
returns-in-Some c =
    let order = c.args.order.now in
    let column = c.args.column in
    record {
      is_the_field_under = ap (field_at c.args.fields.now)
          (sym c.in-Some.is ∙ position_from_yields_List (λ j. sameb the_type j column) _ _ c.position.result c.position.ensures.ran
          (YieldsList-from_slice order cc) (λ x b q k. search (rules, tests)) ∙ position_alike column order);
    }

pub returns-in-None : goal.returns-in-None
returns-in-None c =
    let order = c.args.order.now in
    let column = c.args.column in
    record {
      is_the_field_under = ap (field_at c.args.fields.now)
          (sym c.in-None.is ∙ position_from_yields_List (λ j. sameb the_type j column) _ _ c.position.result c.position.ensures.ran
          (YieldsList-from_slice order cc) (λ x b q k. search (rules, tests)) ∙ position_alike column order);
    }
