-- What is written for a row of penalties.
use Rattle.std.specs.Prelude.{ℕ, List, [], ◌∷◌, ◌++◌, codes, decimal}
use Rattle.scale.specs.Ceilings.{clamped}
use Rattle.scale.specs.Joins.{joined}
use Rattle.scale.specs.Sums.{sum_join}
use Rattle.scale.specs.Worsts.{worst_join}
use Rattle.report.specs.Readings.{Row}

-- the scale's name, a penalty, and the join of all so far
abbrev pub running_line : List ℕ → ℕ → ℕ → List ℕ
running_line name penalty total = name ++ (codes " " ++ (decimal penalty ++ (codes " " ++ (decimal total ++ codes "\n"))))

-- a line for each penalty, where those before it join to total
abbrev pub running_lines : List ℕ → (ℕ → ℕ → ℕ) → ℕ → List ℕ → List ℕ
running_lines name join total [] = []
running_lines name join total (p ∷ ps) = running_line name p (join total p) ++ running_lines name join (join total p) ps

-- the joined penalty on each scale
abbrev pub joined_lines : ℕ → ℕ → List ℕ
joined_lines sum worst = codes "scale joined\nsum " ++ (decimal sum ++ (codes "\nworst " ++ (decimal worst ++ codes "\n")))

-- the running joins and the joined penalty, on the sum scale and on the worst scale
abbrev pub report_of : Row → List ℕ
report_of row =
    let sum = clamped sum_join row.ceiling in
    let worst = clamped worst_join row.ceiling in
    ((codes "scale penalty join\n"
    ++ running_lines (codes "sum") sum 0 row.penalties)
    ++ running_lines (codes "worst") worst 0 row.penalties)
    ++ joined_lines (joined sum row.penalties) (joined worst row.penalties)
