-- What holds of the tables of every plan.
use Rattle.std.specs.Prelude.{◌≡◌, ℕ, ◌<◌, ◌≤◌, Bool, true, length, Some, None, Option, slice_index}
use Rattle.scale.specs.Ceilings.{highest}
use Rattle.plan.specs.declared.tables.Hand.{Hand}
use Rattle.plan.specs.declared.tables.Tables.{Tables}
use Rattle.plan.specs.Layout.{count_of, first_of, second_of, is_there}

-- at most 16 entries of 1 to 8 candidates, and a place for each candidate
abbrev pub EntriesInRange : Tables → Type 0
EntriesInRange x =
    (x.entries.number ≤ 16) × ((e : ℕ) → e < x.entries.number → 1 ≤ count_of x e) × ((e : ℕ) → count_of x e ≤ 8)
    × (length x.entries.own ≡ 128) × (length x.entries.marks ≡ 128)

-- at most 24 pairs, each of two entries, the lower one first, and a place for each cell
abbrev pub PairsInRange : Tables → Type 0
PairsInRange x =
    (x.pairs.number ≤ 24) × ((p : ℕ) → p < x.pairs.number → first_of x p < second_of x p) × ((p : ℕ) → p < x.pairs.number → second_of x p < x.entries.number)
    × (length x.pairs.cells ≡ 1536)

-- the bound is from 1 to the ceiling, and the ceiling is at most the highest
abbrev pub LimitsInOrder : Tables → Type 0
LimitsInOrder x = (1 ≤ x.limits.bound) × (x.limits.bound ≤ x.limits.ceiling) × (x.limits.ceiling ≤ highest)

-- an amount in hand is for a candidate that is there
abbrev pub hand_there : Tables → Option Hand → Bool
hand_there x None = true
hand_there x (Some h) = is_there x h.entry h.candidate

abbrev pub HandOfCandidate : Tables → Type 0
HandOfCandidate x = hand_there x x.hand ≡ true

-- the amount in hand, 0 where there is none
abbrev pub amount_of : Option Hand → ℕ
amount_of None = 0
amount_of (Some h) = h.amount

-- no penalty is above the ceiling, and no amount in hand
abbrev pub NoneAboveCeiling : Tables → Type 0
NoneAboveCeiling x =
    (x.limits.floor ≤ x.limits.ceiling) × ((i : ℕ) → slice_index x.entries.own i ≤ x.limits.ceiling) × ((i : ℕ) → slice_index x.pairs.cells i ≤ x.limits.ceiling)
    × (amount_of x.hand ≤ x.limits.ceiling)

abbrev pub Sound : Tables → Type 0
Sound x = EntriesInRange x × PairsInRange x × LimitsInOrder x × NoneAboveCeiling x × HandOfCandidate x
