use Rattle.std.proofs.Common.{◌∙◌, ap, rules, tests, ◌==◌}
use Rattle.std.proofs.lemmas.Iterator.{YieldsList-from_slice}
use Rattle.std.proofs.lemmas.Iterator.Consumers.{YieldsList-from_filter, count_from_yields_List}
use Rattle.std.proofs.lemmas.List.Sums.{length-filter}
use denote.Enum.Bare.{sameb}
use Rattle.plan_text.specs.contracts.columns.Column.{the_type}
use Rattle.plan_text.proofs.Orders.{count_alike}
use Rattle.plan_text.proofs.columns.stands_once_in.Goals as goal

pub returns : goal.returns
returns c =
    let order = c.args.order.now in
    let same = sameb the_type c.args.column in
    record {
      counts_it = ap (λ n. n == 1)
          (count_from_yields_List c.filter.result c.count.result c.count.ensures.ran
          (YieldsList-from_filter _ same (YieldsList-from_slice order cc) c.filter.ensures.closure
          (λ x b q k. search (rules, tests)))
          ∙ length-filter same order ∙ count_alike c.args.column order);
    }
