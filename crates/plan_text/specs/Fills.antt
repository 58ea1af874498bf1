-- What filling a plan from a text answers and leaves.
use Rattle.std.specs.Prelude.{◌≡◌, ℕ, List, Ok, Err, Result}
use Rattle.plan.specs.declared.refusals.FillFault.{FillFault}
use Rattle.plan.specs.declared.tables.Tables.{Tables}
use Rattle.plan.specs.Costs.{cost}
use Rattle.plan.specs.Fillable.{ListedTuning, filled_cost}
use Rattle.plan.specs.Filling.{fill_answer, fill_after}
use Rattle.plan.specs.Histories.{Call, played, NoCheapTuningLost}
use Rattle.plan_text.specs.declared.faults.TextFault.{TextFault}
use Rattle.plan_text.specs.declared.faults.TextFault.TheVariants.{Filling}
use Rattle.plan_text.specs.Lists.{Listed}

-- a fault of filling is carried whole inside the text's fault
abbrev pub carried : Result (Unit {0}) FillFault → Result (Unit {0}) TextFault
carried (Ok done) = Ok done
carried (Err fault) = Err (Filling fault)

-- the text's fault, or else what filling with its lists answers
abbrev pub text_fill_answer : Tables → ℕ → Result Listed TextFault → Result (Unit {0}) TextFault
text_fill_answer x ceiling (Err fault) = Err fault
text_fill_answer x ceiling (Ok l) = carried (fill_answer x ceiling l.counts l.own l.pairs)

-- what filling with the text's lists leaves; a text that says none leaves the plan as it was
abbrev pub text_fill_after : Tables → ℕ → Result Listed TextFault → Tables
text_fill_after x ceiling (Err fault) = x
text_fill_after x ceiling (Ok l) = fill_after x ceiling l.counts l.own l.pairs

-- each tuning of the text's lists costs its filled cost
abbrev pub CostsAsRead : (ℕ → ℕ → ℕ) → Tables → Result Listed TextFault → Type 0
CostsAsRead join x (Err fault) = Unit {0}
CostsAsRead join x (Ok l) =
    (t : List ℕ) → ListedTuning l.counts t → cost join x t ≡ filled_cost join l.counts l.own l.pairs t

-- no calls on the plan lose a cheap tuning of the text's lists
abbrev pub KeepsCheapTunings : (ℕ → ℕ → ℕ) → (ℕ → ℕ → ℕ) → Tables → Result Listed TextFault → Type 0
KeepsCheapTunings join rest x (Err fault) = Unit {0}
KeepsCheapTunings join rest x (Ok l) =
    (calls : List Call) → NoCheapTuningLost join l.counts l.own l.pairs (played join rest x calls)
