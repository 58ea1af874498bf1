-- What a loop over the tunings of a plan writes.
use Rattle.std.proofs.Common.{◌≡◌, ℕ, ◌+◌, ◌<◌, List, ◌++◌, length, get_or, take, fold, sym, ap, ◌∙◌}
use Rattle.std.proofs.lemmas.List.Sums.{fold_more}
use Rattle.plan.specs.declared.tables.Tables.{Tables}
use Rattle.report.specs.PlanReports.{paid_by, paid_line}

-- a text, and then the line of a tuning
abbrev pub with_line : List ℕ → (ℕ → ℕ → ℕ) → Tables → List ℕ → ℕ × ℕ → List ℕ
with_line name join x text p = text ++ paid_line name p.0 p.1 (paid_by join x p.0 p.1)

-- one line more is written
pub one_line_more : (line : List ℕ → ℕ × ℕ → List ℕ) (before text out : List ℕ)
    (ps : List (ℕ × ℕ)) (i : ℕ) → i < length ps → text ≡ fold line before (take i ps) →
    out ≡ line text (get_or ps i (0, 0)) → out ≡ fold line before (take (i + 1) ps)
one_line_more line before text out ps i l so_far writes =
    writes ∙ ap (λ t. line t (get_or ps i (0, 0))) so_far
    ∙ sym (fold_more line before ps i (0, 0) l)
