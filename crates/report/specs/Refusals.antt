-- The numbers of the refusals.
use Rattle.std.specs.Prelude.{ℕ}
use Rattle.report.specs.declared.refusal.Reason.{Reason}
use Rattle.report.specs.declared.refusal.Reason.TheVariants.{CeilingOutOfRange, PointsAboveCeiling, TextTooLong, MalformedLine}

abbrev pub number_of : Reason → ℕ
number_of CeilingOutOfRange = 1
number_of PointsAboveCeiling = 5
number_of TextTooLong = 18
number_of MalformedLine = 20
