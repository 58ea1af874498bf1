use Rattle.std.proofs.Common.{rules, ℕ, ◌<◌, Bool, get_or, unwrap_or, ap, ◌∙◌}
use Rattle.plan.specs.Layout.{count_of, open_at}
use Rattle.plan.specs.Rows.{least_where, row_place}
use Rattle.plan.proofs.RowSteps.{least_of}
use Rattle.plan.proofs.Plan.row_least.Goals as goal

pub returns : goal.returns
returns g c =
    let x = c.args.self.now.tables in
    let number = λ (ahead : Bool) (k : ℕ). get_or x.pairs.cells (row_place ahead c.args.pair c.args.candidate k) 0 in
    let sides = c.sides-ahead.result in
    let low : sides.1 < 16 = search rules in
    record {
      is_the_least =
          c.least_marked.ensures.is_the_least (number sides.0) (λ k answer h is. search rules)
          ∙ least_of x c.args.self.now.sound sides.1 low _ c.marks_of.ensures.are_its_marks (number sides.0)
          ∙ ap (λ (s : Bool × ℕ). unwrap_or (least_where (open_at x s.1) (number s.0) (count_of x s.1)) 0) c.sides-ahead.ensures.are_they;
    }
