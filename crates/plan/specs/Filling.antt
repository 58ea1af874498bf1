-- What lists make of a plan's tables, and what filling answers and leaves.
use Rattle.std.specs.Prelude.{ℕ, zero, suc, ◌+◌, ◌*◌, ◌<◌, ◌≤◌, Bool, if◌then◌else◌, ◌&&◌, List, length, take, None, sum, Result, ◌==◌, nat_lt, slice_index, slice_index_or, slice_set}
use Rattle.plan.specs.declared.lists.Lists.{Lists}
use Rattle.plan.specs.declared.records.PairRecord.{PairRecord}
use Rattle.plan.specs.declared.refusals.FillFault.{FillFault}
use Rattle.plan.specs.declared.tables.Entries.{Entries}
use Rattle.plan.specs.declared.tables.Pairs.{Pairs}
use Rattle.plan.specs.declared.tables.Tables.{Tables}
use Rattle.plan.specs.Faults.{fill_fault}
use Rattle.plan.specs.Fresh.{new_tables}
use Rattle.plan.specs.Layout.{cell_place, written_from}
use Rattle.plan.specs.Records.{at}
use Rattle.plan.specs.Refusing.{answered, unless_refused}

-- where the own penalties of the entry e begin in their list: behind those of the entries before it
abbrev pub start : List ℕ → ℕ → ℕ
start counts e = sum (take e counts)

-- the own penalty that the list gives the candidate c of the entry e
abbrev pub listed_own : List ℕ → List ℕ → ℕ → ℕ → ℕ
listed_own counts own e c = slice_index own (start counts e + c)

-- the own penalties of the first n entries, in their places
abbrev pub own_rows : List ℕ → List ℕ → ℕ → List ℕ → List ℕ
own_rows counts own zero places = places
own_rows counts own (suc e) places = written_from (8 * e) (listed_own counts own e) (slice_index counts e) (own_rows counts own e places)

-- other counts; other own penalties
abbrev pub with_counts : Entries → List ℕ → Entries
with_counts x counts = record { number = x.number; counts = counts; own = x.own; marks = x.marks }

abbrev pub with_own : Entries → List ℕ → Entries
with_own x own = record { number = x.number; counts = x.counts; own = own; marks = x.marks }

-- the entries of the counts and the own list, all candidates open
abbrev pub filled_entries : List ℕ → List ℕ → Entries
filled_entries counts own = record {
  number = length counts;
  counts = written_from 0 (λ e. slice_index counts e) (length counts) new_tables.entries.counts;
  own = own_rows counts own (length counts) new_tables.entries.own;
  marks = new_tables.entries.marks;
}

-- the number of the pair of the entries e and o among the first k, or else k
abbrev pub is_pair : Pairs → ℕ → ℕ → ℕ → Bool
is_pair x e o p = (slice_index_or x.ends p (0, 0)).0 == e && (slice_index_or x.ends p (0, 0)).1 == o

abbrev pub next_place : ℕ → ℕ → Bool → ℕ
next_place p k here = if nat_lt p k then p else if here then k else suc k

abbrev pub place_among : Pairs → ℕ → ℕ → ℕ → ℕ
place_among x e o zero = 0
place_among x e o (suc k) = next_place (place_among x e o k) k (is_pair x e o k)

abbrev pub pair_place : Pairs → ℕ → ℕ → ℕ
pair_place x e o = place_among x e o x.number

-- a pair more
abbrev pub with_pair : Pairs → ℕ → ℕ → Pairs
with_pair x e o = record { number = x.number + 1; ends = slice_set x.ends x.number (e, o); cells = x.cells }

-- the pair is there, or takes the next number
abbrev pub with_room_for : Pairs → ℕ → ℕ → Pairs
with_room_for x e o = if pair_place x e o == x.number then with_pair x e o else x

abbrev pub with_cell : Pairs → ℕ → ℕ → Pairs
with_cell x i points = record { number = x.number; ends = x.ends; cells = slice_set x.cells i points }

-- a record written; the first n records written
abbrev pub with_record : Pairs → PairRecord → Pairs
with_record x r = with_cell (with_room_for x r.entry r.other) (cell_place (pair_place x r.entry r.other) r.candidate r.choice) r.points

abbrev pub with_records : List PairRecord → ℕ → Pairs → Pairs
with_records rs zero x = x
with_records rs (suc k) x = with_record (with_records rs k x) (at rs k)

-- there is a place for the pair of the record k, and for its cell
pub record Writable (x : Pairs) (rs : List PairRecord) (k : ℕ) : Type 0 where
  pub few_pairs : (with_records rs k x).number ≤ 24
  pub place_low : pair_place (with_records rs k x) (at rs k).entry (at rs k).other < 24
  pub candidate_low : (at rs k).candidate < 8
  pub choice_low : (at rs k).choice < 8

-- the tables that the lists make: floor 0, the bound at the ceiling, nothing in hand
abbrev pub filled_tables : ℕ → List ℕ → List ℕ → List PairRecord → Tables
filled_tables ceiling counts own rs = record {
  entries = filled_entries counts own;
  pairs = with_records rs (length rs) new_tables.pairs;
  limits = record { floor = 0; ceiling = ceiling; bound = ceiling };
  hand = None;
}

-- the tables of lists
abbrev pub tables_of : Lists → Tables
tables_of lists = filled_tables lists.ceiling lists.counts.now lists.own.now lists.records.now

-- what is answered, and what is left
abbrev pub fill_answer : Tables → ℕ → List ℕ → List ℕ → List PairRecord → Result (Unit {0}) FillFault
fill_answer x ceiling counts own rs = answered (fill_fault x ceiling counts own rs)

abbrev pub fill_after : Tables → ℕ → List ℕ → List ℕ → List PairRecord → Tables
fill_after x ceiling counts own rs = unless_refused (fill_fault x ceiling counts own rs) x (filled_tables ceiling counts own rs)
