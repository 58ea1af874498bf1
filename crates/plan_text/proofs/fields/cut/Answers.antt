use Rattle.std.proofs.Common.{◌∙◌, sym}
use Rattle.plan_text.proofs.Cuts.{cut_at, cut_none}
use Rattle.plan_text.proofs.fields.cut.Goals as goal

pub returns-in_err-end-clause-first_piece_and_rest :
    goal.returns-in_err-end-clause-first_piece_and_rest
returns-in_err-end-clause-first_piece_and_rest c =
    rw c.from_residual.ensures
    (cut_none _ _ (sym c.first_place.ensures.is_the_first ∙ c.in_err-end.was))

pub returns-clause-first_piece_and_rest : goal.returns-clause-first_piece_and_rest
returns-clause-first_piece_and_rest c =
    cut_at _ _ _ (sym c.first_place.ensures.is_the_first ∙ c.in_ok-end.was)
