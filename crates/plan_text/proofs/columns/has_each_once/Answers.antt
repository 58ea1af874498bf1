use Rattle.std.proofs.Common.{rules, tests}
use Rattle.std.proofs.lemmas.Iterator.{YieldsList-from_slice}
use Rattle.std.proofs.lemmas.Iterator.Search.{all_from_yields_List}
use Rattle.plan_text.specs.Columns.{all_columns, stands_once}
use Rattle.plan_text.proofs.columns.has_each_once.Goals as goal

pub returns : goal.returns
returns c = record {
  has_each = all_from_yields_List (stands_once c.args.order.now) _ _ _ c.all.ensures.ran
      (YieldsList-from_slice all_columns cc) (λ x b q k. search (rules, tests));
}
