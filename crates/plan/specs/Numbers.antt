-- The numbers of the refusals, and of the lists that a plan is filled from.
use Rattle.std.specs.Prelude.{ℕ}
use Rattle.plan.specs.declared.refusals.FillList.{FillList}
use Rattle.plan.specs.declared.refusals.FillList.TheVariants.{Counts, Own, Pairs}
use Rattle.plan.specs.declared.refusals.Refusal.{Refusal}
use Rattle.plan.specs.declared.refusals.Refusal.TheVariants.{CeilingOutOfRange, AlreadyFilled, CountOutOfRange, OwnLength, PointsAboveCeiling, RecordOfAbsent, RepeatedCell, TooManyPairs, Absent, AmountOutOfRange, HandNotEmpty, NotInHand, BoundOutOfRange, TooManySweeps, NotAllowed}

abbrev pub number_of : Refusal → ℕ
number_of CeilingOutOfRange = 1
number_of AlreadyFilled = 2
number_of CountOutOfRange = 3
number_of OwnLength = 4
number_of PointsAboveCeiling = 5
number_of RecordOfAbsent = 6
number_of RepeatedCell = 7
number_of TooManyPairs = 8
number_of Absent = 9
number_of AmountOutOfRange = 10
number_of HandNotEmpty = 11
number_of NotInHand = 12
number_of BoundOutOfRange = 13
number_of TooManySweeps = 14
number_of NotAllowed = 15

abbrev pub list_number_of : FillList → ℕ
list_number_of Counts = 0
list_number_of Own = 1
list_number_of Pairs = 2
