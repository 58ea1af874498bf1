-- What the program answers to a text.
use Rattle.std.specs.Prelude.{ℕ, List, ◌++◌, Ok, Err, codes, decimal, Result}
use Rattle.report.specs.declared.refusal.Refusal.{Refusal}
use Rattle.report.specs.PlanReports.{plan_report}
use Rattle.report.specs.Readings.{Row}
use Rattle.report.specs.Refusals.{number_of}
use Rattle.report.specs.RowReports.{report_of}
use Rattle.report.specs.SweepReports.{settling_report}

-- a refusal's number and line
abbrev pub refusal_lines : ℕ → ℕ → List ℕ
refusal_lines number line = codes "refusal line\n" ++ (decimal number ++ (codes " " ++ (decimal line ++ codes "\n")))

-- the report of a row, of the plan at its ceiling and of its settling there, or the refusal
abbrev pub written_for : Result Row Refusal → List ℕ
written_for (Ok row) = settling_report row.ceiling (plan_report row.ceiling (report_of row))
written_for (Err why) = refusal_lines (number_of why.reason) why.line
