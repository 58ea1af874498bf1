use Rattle.std.proofs.Common.{rules, ◌∙◌, arith}
use Rattle.plan.specs.Layout.{own_of}
use Rattle.plan.proofs.RowSteps.{least_of}
use Rattle.plan.proofs.Plan.own_least.Goals as goal

pub returns : goal.returns
returns g c =
    let x = c.args.self.now.tables in
    let s = c.args.self.now.sound in
    let e = c.args.entry in
    record {
      is_the_least =
          c.least_marked.ensures.is_the_least (own_of x e) (λ k answer h is. search rules)
          ∙ least_of x s e (omega (arith, s.0.0)) _ c.marks_of.ensures.are_its_marks (own_of x e);
    }
