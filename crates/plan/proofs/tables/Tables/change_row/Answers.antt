use Rattle.std.proofs.Common.{rules, ℕ, ◌<◌, Bool, ap, ◌∙◌}
use Rattle.plan.specs.Layout.{count_of, open_at}
use Rattle.plan.specs.Lifting.{with_cell_list}
use Rattle.plan.specs.Rows.{changed, row_place}
use Rattle.plan.proofs.RowSteps.{changed_of}
use Rattle.plan.proofs.tables.Tables.change_row.Goals as goal

pub returns : goal.returns
returns g c =
    let x = c.args.self.now in
    let place = λ (ahead : Bool). row_place ahead c.args.pair c.args.candidate in
    let sides = c.sides-ahead.result in
    let low : sides.1 < 16 = search rules in
    record {
      changes_it = λ by computes.
          ap (with_cell_list x)
          (c.change_marked.ensures.changes_them (place sides.0) by (λ k answer h is. search rules) computes
          ∙ changed_of x c.requires.sound sides.1 low _ c.marks_of.ensures.are_its_marks (place sides.0) by x.pairs.cells
          ∙ ap (λ (s : Bool × ℕ). changed (open_at x s.1) (place s.0) by (count_of x s.1) x.pairs.cells) c.sides-ahead.ensures.are_they);
    }
