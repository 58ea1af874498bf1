-- What is written for a plan that the program has as data: two entries of two candidates, and one pair.
use Rattle.std.specs.Prelude.{ℕ, if◌then◌else◌, List, [], ◌∷◌, ◌++◌, Some, None, Ok, Err, codes, decimal, Option, Result}
use Rattle.std.specs.Result.{result_ok}
use Rattle.scale.specs.Ceilings.{clamped}
use Rattle.scale.specs.Sums.{sum_join}
use Rattle.scale.specs.Worsts.{worst_join}
use Rattle.plan.specs.declared.records.PairRecord.{PairRecord}
use Rattle.plan.specs.declared.refusals.FillFault.{FillFault}
use Rattle.plan.specs.declared.tables.Tables.{Tables}
use Rattle.plan.specs.Costs.{cost_answer}
use Rattle.plan.specs.Filling.{fill_answer, fill_after}
use Rattle.plan.specs.Fresh.{new_tables}
use Rattle.plan.specs.Layout.{is_there, is_cell, own_of, cell_of}
use Rattle.plan.specs.Numbers.{number_of, list_number_of}
use Rattle.report.specs.declared.plans.Paid.{Paid}

-- the counts, the own list and the pair list
abbrev pub sample_counts : List ℕ
sample_counts = 2 ∷ 2 ∷ []

abbrev pub sample_own : List ℕ
sample_own = 3 ∷ 1 ∷ 1 ∷ 0 ∷ []

abbrev pub sample_pairs : List PairRecord
sample_pairs = record { entry = 0; candidate = 1; other = 1; choice = 1; points = 4 } ∷ []

-- what filling a new plan from them answers, and the tables that it leaves
abbrev pub sample_answer : ℕ → Result (Unit {0}) FillFault
sample_answer c = fill_answer new_tables c sample_counts sample_own sample_pairs

abbrev pub sample_after : ℕ → Tables
sample_after c = fill_after new_tables c sample_counts sample_own sample_pairs

abbrev pub and_then : {A B : Type 0} → Option A → (A → Option B) → Option B
and_then None next = None
and_then (Some x) next = next x

-- what the tuning of the candidates a and b pays, and what that comes to
abbrev pub paid_by : (ℕ → ℕ → ℕ) → Tables → ℕ → ℕ → Option Paid
paid_by join x a b =
    and_then (if is_there x 0 a then Some (own_of x 0 a) else None) (λ first.
    and_then (if is_there x 1 b then Some (own_of x 1 b) else None) (λ second.
    and_then (if is_cell x 0 a b then Some (cell_of x 0 a b) else None) (λ cell.
    and_then (result_ok (cost_answer join x (a ∷ b ∷ []))) (λ cost.
    Some (record { floor = x.limits.floor; first = first; second = second; cell = cell; cost = cost })))))

-- a line for it: the scale's name and the candidates, then the penalties and the cost
abbrev pub named_tuning : List ℕ → ℕ → ℕ → List ℕ
named_tuning name a b = name ++ (codes " " ++ (decimal a ++ (codes " " ++ decimal b)))

abbrev pub paid_numbers : Paid → List ℕ
paid_numbers p =
    codes " " ++ (decimal p.floor ++ (codes " " ++ (decimal p.first ++ (codes " " ++ (decimal p.second ++ (codes " " ++ (decimal p.cell ++ (codes " " ++ (decimal p.cost ++ codes "\n")))))))))

abbrev pub paid_line : List ℕ → ℕ → ℕ → Option Paid → List ℕ
paid_line name a b None = []
paid_line name a b (Some p) = named_tuning name a b ++ paid_numbers p

-- a line for each of the four tunings
abbrev pub tuning_lines : List ℕ → (ℕ → ℕ → ℕ) → Tables → List ℕ → List ℕ
tuning_lines name join x before =
    (((before ++ paid_line name 0 0 (paid_by join x 0 0)) ++ paid_line name 0 1 (paid_by join x 0 1)) ++ paid_line name 1 0 (paid_by join x 1 0))
    ++ paid_line name 1 1 (paid_by join x 1 1)

-- a line for a fault of filling: its number, its list and its place
abbrev pub fault_line : List ℕ → FillFault → List ℕ
fault_line name f =
    name ++ (codes " refusal " ++ (decimal (number_of f.refusal) ++ (codes " list " ++ (decimal (list_number_of f.list) ++ (codes " place " ++ (decimal f.place ++ codes "\n"))))))

abbrev pub filled_lines : List ℕ → (ℕ → ℕ → ℕ) → Result (Unit {0}) FillFault → Tables → List ℕ → List ℕ
filled_lines name join (Ok _) x before = tuning_lines name join x before
filled_lines name join (Err f) x before = before ++ fault_line name f

-- the plan filled at a ceiling, on a scale
abbrev pub plan_lines : List ℕ → (ℕ → ℕ → ℕ → ℕ) → ℕ → List ℕ → List ℕ
plan_lines name join c before = filled_lines name (join c) (sample_answer c) (sample_after c) before

-- on both scales
abbrev pub plan_report : ℕ → List ℕ → List ℕ
plan_report c before =
    plan_lines (codes "worst") (clamped worst_join) c (plan_lines (codes "sum") (clamped sum_join) c (before ++ codes "scale first second floor own own cell cost\n"))
