-- What a list of records says. A record gives the points of one cell: of a candidate of an entry with a choice of another.
use Rattle.std.specs.Prelude.{ℕ, zero, suc, Bool, false, if◌then◌else◌, ◌&&◌, ◌||◌, List, [], ◌∷◌, ◌++◌, ◌==◌, slice_index_or}
use Rattle.plan.specs.declared.records.PairRecord.{PairRecord}

abbrev pub no_record : PairRecord
no_record = record { entry = 0; candidate = 0; other = 0; choice = 0; points = 0 }

-- the record k of the list
abbrev pub at : List PairRecord → ℕ → PairRecord
at rs k = slice_index_or rs k no_record

-- the record is of the pair of the entries e and o; it names the cell of the candidate a of e and b of o
abbrev pub of_pair : PairRecord → ℕ → ℕ → Bool
of_pair r e o = r.entry == e && r.other == o

abbrev pub names_cell : PairRecord → ℕ → ℕ → ℕ → ℕ → Bool
names_cell r e a o b = of_pair r e o && (r.candidate == a && r.choice == b)

-- one of the first k records passes a test; is of a pair; names a cell
abbrev pub met : (PairRecord → Bool) → List PairRecord → ℕ → Bool
met test rs zero = false
met test rs (suc k) = met test rs k || test (at rs k)

abbrev pub pair_met : List PairRecord → ℕ → ℕ → ℕ → Bool
pair_met rs k e o = met (λ r. of_pair r e o) rs k

abbrev pub cell_met : List PairRecord → ℕ → ℕ → ℕ → ℕ → ℕ → Bool
cell_met rs k e a o b = met (λ r. names_cell r e a o b) rs k

-- an earlier record is of the pair of the record k; an earlier one names its cell
abbrev pub known_pair : List PairRecord → ℕ → Bool
known_pair rs k = pair_met rs k (at rs k).entry (at rs k).other

abbrev pub repeated_cell : List PairRecord → ℕ → Bool
repeated_cell rs k = cell_met rs k (at rs k).entry (at rs k).candidate (at rs k).other (at rs k).choice

-- the different pairs of the first k records, in the order in which they first occur
abbrev pub pairs_of : List PairRecord → ℕ → List (ℕ × ℕ)
pairs_of rs zero = []
pairs_of rs (suc k) = if known_pair rs k then pairs_of rs k else pairs_of rs k ++ ((at rs k).entry, (at rs k).other) ∷ []

-- the points that the first k records give a cell: those of the one that names it, or else 0
abbrev pub points_of : List PairRecord → ℕ → ℕ → ℕ → ℕ → ℕ → ℕ
points_of rs zero e a o b = 0
points_of rs (suc k) e a o b = if names_cell (at rs k) e a o b then (at rs k).points else points_of rs k e a o b
