-- What is written while the plan that the program has as data is settled, sweep by sweep.
use Rattle.std.specs.Prelude.{ℕ, zero, suc, ◌+◌, Bool, true, false, if◌then◌else◌, List, [], ◌∷◌, ◌++◌, Ok, Err, codes, decimal, Result}
use Rattle.scale.specs.Ceilings.{clamped}
use Rattle.scale.specs.Sums.{sum_join, sum_rest}
use Rattle.scale.specs.Worsts.{worst_join, worst_rest}
use Rattle.plan.specs.declared.refusals.FillFault.{FillFault}
use Rattle.plan.specs.declared.tables.Tables.{Tables}
use Rattle.plan.specs.Closing.{lower_after}
use Rattle.plan.specs.Layout.{is_there, own_of, open_at}
use Rattle.plan.specs.Settling.{unchanged, settle_after}
use Rattle.report.specs.PlanReports.{sample_answer, sample_after}

-- 1 for an open candidate, 0 for a closed one
abbrev pub mark_number : Bool → ℕ
mark_number true = 1
mark_number false = 0

-- numbers, each behind a space, and the end of the line
abbrev pub spaced : List ℕ → List ℕ
spaced [] = codes "\n"
spaced (n ∷ ns) = codes " " ++ (decimal n ++ spaced ns)

-- a candidate's line: the scale's name, the sweeps made, the floor, the entry, the candidate, its own penalty and its mark
abbrev pub candidate_line : List ℕ → ℕ → Tables → ℕ → ℕ → List ℕ
candidate_line name made x e c =
    if is_there x e c then name ++ spaced (made ∷ x.limits.floor ∷ e ∷ c ∷ own_of x e c ∷ mark_number (open_at x e c) ∷ []) else []

-- a line for each of the four candidates
abbrev pub candidate_lines : List ℕ → ℕ → Tables → List ℕ → List ℕ
candidate_lines name made x before =
    (((before ++ candidate_line name made x 0 0) ++ candidate_line name made x 0 1) ++ candidate_line name made x 1 0) ++ candidate_line name made x 1 1

-- the tables after one sweep more, at their ceiling
abbrev pub swept_tables : (ℕ → ℕ → ℕ → ℕ) → (ℕ → ℕ → ℕ → ℕ) → Tables → Tables
swept_tables join rest x = settle_after (join x.limits.ceiling) (rest x.limits.ceiling) x 1

-- up to n sweeps more, each with its lines, until one changes nothing
unfoldable pub sweep_lines : List ℕ → (ℕ → ℕ → ℕ → ℕ) → (ℕ → ℕ → ℕ → ℕ) → ℕ → ℕ → Tables → List ℕ → List ℕ
sweep_lines name join rest zero made x before = before
sweep_lines name join rest (suc n) made x before =
    let y = swept_tables join rest x in
    let lines = candidate_lines name (made + 1) y before in
    if unchanged x y then lines else sweep_lines name join rest n (made + 1) y lines

-- the bound is lowered to 3: the lines before the first sweep, and then those of at most 16 sweeps
abbrev pub settled_lines : List ℕ → (ℕ → ℕ → ℕ → ℕ) → (ℕ → ℕ → ℕ → ℕ) → Tables → List ℕ → List ℕ
settled_lines name join rest x before =
    let y = lower_after x 3 in
    sweep_lines name join rest 16 0 y (candidate_lines name 0 y before)

-- no lines where the plan does not fill
abbrev pub lines_if_filled : List ℕ → (ℕ → ℕ → ℕ → ℕ) → (ℕ → ℕ → ℕ → ℕ) → Result (Unit {0}) FillFault → Tables → List ℕ → List ℕ
lines_if_filled name join rest (Ok _) x before = settled_lines name join rest x before
lines_if_filled name join rest (Err f) x before = before

-- the plan filled at a ceiling and settled, on a scale
abbrev pub settling_lines : List ℕ → (ℕ → ℕ → ℕ → ℕ) → (ℕ → ℕ → ℕ → ℕ) → ℕ → List ℕ → List ℕ
settling_lines name join rest c before = lines_if_filled name join rest (sample_answer c) (sample_after c) before

-- on both scales
abbrev pub settling_report : ℕ → List ℕ → List ℕ
settling_report c before =
    settling_lines (codes "worst") (clamped worst_join) (clamped worst_rest) c (settling_lines (codes "sum") (clamped sum_join) (clamped sum_rest) c (before ++ codes "scale sweep floor entry candidate own open\n"))
