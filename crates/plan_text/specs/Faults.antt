-- The numbers and lines of faults of a text.
use Rattle.std.specs.Prelude.{ℕ}
use Rattle.plan.specs.Numbers as plan
use Rattle.plan_text.specs.declared.faults.TextFault.{TextFault}
use Rattle.plan_text.specs.declared.faults.TextFault.TheVariants.{TooLong, Names, Malformed, OutOfOrder, Filling, OutOfMemory}

-- the number that a user sees; a fault of filling keeps its own
abbrev pub number_of : TextFault → ℕ
number_of TooLong = 18
number_of Names = 19
number_of (Malformed n) = 20
number_of (OutOfOrder n) = 21
number_of (Filling fault) = plan.number_of fault.refusal
number_of OutOfMemory = 22

-- the line, counted from 1, or 0 where the fault is of no line
abbrev pub line_number_of : TextFault → ℕ
line_number_of TooLong = 0
line_number_of Names = 1
line_number_of (Malformed n) = n
line_number_of (OutOfOrder n) = n
line_number_of (Filling fault) = 0
line_number_of OutOfMemory = 0
