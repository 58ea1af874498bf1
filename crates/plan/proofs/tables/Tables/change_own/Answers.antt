use Rattle.std.proofs.Common.{rules, ap, ◌+◌, ◌∙◌, arith}
use Rattle.std.specs.List.{slice_range}
use Rattle.plan.specs.Layout.{candidate_place, count_of}
use Rattle.plan.specs.Lifting.{with_own_list}
use Rattle.plan.proofs.RowSteps.{changed_of}
use Rattle.plan.proofs.tables.Tables.change_own.Goals as goal

pub returns : goal.returns
returns g c =
    let x = c.args.self.now in
    let s = c.requires.sound in
    let e = c.args.entry in
    let start = c.candidate_place-start.result in
    let marks = slice_range x.entries.marks start (start + count_of x e) in
    record {
      changes_them = λ by computes.
          ap (with_own_list x)
          (c.change_marked.ensures.changes_them (candidate_place e) by (λ k answer h is. search rules) computes
          ∙ changed_of x s e (omega (arith, s.0.0)) marks (search rules) (candidate_place e) by x.entries.own);
    }
