use Rattle.std.proofs.Common.{◌≡◌, ℕ, sym, ap, ◌∙◌}
use Rattle.std.proofs.lemmas.List.{take_all}
use Rattle.scale.specs.Joins.{joined}
use Rattle.scale.proofs.JoinedLists.{joined_shuffled}
use Rattle.scale.proofs.TwoScales.{joined_sum, joined_worst}
use Rattle.scale.proofs.joined.joined_penalty.Goals as goal

-- all are joined; the rest follows from the laws, and from what the two scales are
pub returns : goal.returns
returns g c =
    let join = g.S.Scale.join c.args.scale.now in
    let ceiling = c.args.ceiling in
    let points = c.args.points.now in
    let all : c.loop-penalty.total ≡ joined (join ceiling) points =
    c.loop-penalty.invariant ∙ ap (joined (join ceiling)) (take_all c.loop-penalty.penalty-index points c.loop-penalty-test.false) in
    record {
      joins_all_from_zero = all;
      any_order_joins_to_the_same = λ ys s. joined_shuffled (g.met.S.Scale.lawful c.args.scale.now ceiling) points ys s ∙ sym all;
      capped_sum_on_the_sum_scale = λ is. all ∙ ap (λ (j : ℕ → ℕ → ℕ → ℕ). joined (j ceiling) points) is ∙ joined_sum ceiling points;
      largest_on_the_worst_scale = λ is. all ∙ ap (λ (j : ℕ → ℕ → ℕ → ℕ). joined (j ceiling) points) is ∙ joined_worst ceiling points;
    }
