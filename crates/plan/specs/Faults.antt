-- Why lists are refused, and where: the first fault in the order of the checks.
use Rattle.std.specs.Prelude.{ℕ, zero, suc, Bool, if◌then◌else◌, ◌&&◌, ◌||◌, List, length, Some, None, sum, Option, ◌==◌, nat_le, nat_lt, slice_index}
use Rattle.scale.specs.Ceilings.{highest}
use Rattle.plan.specs.declared.lists.Lists.{Lists}
use Rattle.plan.specs.declared.records.PairRecord.{PairRecord}
use Rattle.plan.specs.declared.refusals.FillFault.{FillFault}
use Rattle.plan.specs.declared.refusals.FillList.{FillList}
use Rattle.plan.specs.declared.refusals.FillList.TheVariants.{Counts, Own, Pairs}
use Rattle.plan.specs.declared.refusals.Refusal.{Refusal}
use Rattle.plan.specs.declared.refusals.Refusal.TheVariants.{CeilingOutOfRange, AlreadyFilled, CountOutOfRange, OwnLength, PointsAboveCeiling, RecordOfAbsent, RepeatedCell, TooManyPairs}
use Rattle.plan.specs.declared.tables.Tables.{Tables}
use Rattle.plan.specs.Records.{at, known_pair, repeated_cell, pairs_of}

-- the first place below n that a test finds fault with, and the fault
abbrev pub or_here : ℕ → Option (Refusal × ℕ) → Option Refusal → Option (Refusal × ℕ)
or_here k (Some found) here = Some found
or_here k None (Some why) = Some (why, k)
or_here k None None = None

abbrev pub first_fault : (ℕ → Option Refusal) → ℕ → Option (Refusal × ℕ)
first_fault test zero = None
first_fault test (suc k) = or_here k (first_fault test k) (test k)

abbrev pub fault_at : FillList → Refusal → ℕ → Option FillFault
fault_at l why place = Some (record { refusal = why; list = l; place = place })

abbrev pub in_list : FillList → Option (Refusal × ℕ) → Option FillFault
in_list l None = None
in_list l (Some found) = fault_at l found.0 found.1

-- the first of two
abbrev pub or_later : {A : Type 0} → Option A → Option A → Option A
or_later (Some fault) later = Some fault
or_later None later = later

-- a count is from 1 to 8
abbrev pub count_fault : List ℕ → ℕ → Option Refusal
count_fault counts e = if nat_le 1 (slice_index counts e) && nat_le (slice_index counts e) 8 then None else Some CountOutOfRange

-- there are 1 to 16 counts
abbrev pub counts_fault : List ℕ → Option FillFault
counts_fault counts =
    if length counts == 0 then fault_at Counts CountOutOfRange 0
    else if nat_lt 16 (length counts) then fault_at Counts CountOutOfRange 16
    else in_list Counts (first_fault (count_fault counts) (length counts))

-- an own penalty is at most the ceiling
abbrev pub penalty_fault : ℕ → List ℕ → ℕ → Option Refusal
penalty_fault ceiling own i = if nat_lt ceiling (slice_index own i) then Some PointsAboveCeiling else None

-- there is an own penalty for each candidate
abbrev pub own_fault : ℕ → List ℕ → List ℕ → Option FillFault
own_fault ceiling counts own =
    if length own == sum counts then in_list Own (first_fault (penalty_fault ceiling own) (length own))
    else fault_at Own OwnLength (sum counts)

-- the record names what is absent, or its first entry is not the lower one
abbrev pub names_absent : List ℕ → PairRecord → Bool
names_absent counts r =
    nat_le r.other r.entry || (nat_le (length counts) r.other || (nat_le (slice_index counts r.entry) r.candidate || nat_le (slice_index counts r.other) r.choice))

-- what is wrong with a record by itself
abbrev pub lone_fault : ℕ → List ℕ → PairRecord → Option Refusal
lone_fault ceiling counts r =
    if names_absent counts r then Some RecordOfAbsent
    else if nat_lt ceiling r.points then Some PointsAboveCeiling
    else None

-- what is wrong with the record k among those before it
abbrev pub later_fault : List PairRecord → ℕ → Option Refusal
later_fault rs k =
    if repeated_cell rs k then Some RepeatedCell
    else if known_pair rs k then None
    else if nat_le 24 (length (pairs_of rs k)) then Some TooManyPairs
    else None

-- what is wrong with the record k
abbrev pub record_fault : ℕ → List ℕ → List PairRecord → ℕ → Option Refusal
record_fault ceiling counts rs k = or_later (lone_fault ceiling counts (at rs k)) (later_fault rs k)

-- why a plan is not filled, if it is not
abbrev pub fill_fault : Tables → ℕ → List ℕ → List ℕ → List PairRecord → Option FillFault
fill_fault x ceiling counts own rs =
    if x.entries.number == 0 then
    (if nat_le 1 ceiling && nat_le ceiling highest then
    or_later (counts_fault counts)
    (or_later (own_fault ceiling counts own) (in_list Pairs (first_fault (record_fault ceiling counts rs) (length rs))))
    else fault_at Counts CeilingOutOfRange 0)
    else fault_at Counts AlreadyFilled 0

-- why lists do not fill the tables x, if they do not
abbrev pub fault_of : Tables → Lists → Option FillFault
fault_of x lists = fill_fault x lists.ceiling lists.counts.now lists.own.now lists.records.now
