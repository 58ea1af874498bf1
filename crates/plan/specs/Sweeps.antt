-- A sweep: penalties are moved from rows to own penalties and from own penalties to the floor, and candidates are closed.
use Rattle.std.specs.Prelude.{ℕ, zero, suc, if◌then◌else◌, List, Option}
use Rattle.std.specs.Option.{unwrap_or}
use Rattle.plan.specs.declared.place.Place.TheVariants.{OwnPenalty, Row}
use Rattle.plan.specs.declared.tables.Hand.{Hand}
use Rattle.plan.specs.declared.tables.Tables.{Tables}
use Rattle.plan.specs.Closing.{close_after}
use Rattle.plan.specs.Layout.{candidate_place, count_of, own_of, open_at, first_of, second_of}
use Rattle.plan.specs.Lifting.{with_own_list, adjusted}
use Rattle.plan.specs.Rows.{least_where, changed, row_least}

-- the steps 0, 1, .., n - 1, one after another
abbrev pub in_turn : (ℕ → Tables → Tables) → ℕ → Tables → Tables
in_turn step zero x = x
in_turn step (suc k) x = step k (in_turn step k x)

-- the amount m is taken off each number of a row at the candidate c of the entry e, and joined to its own penalty
abbrev pub moved_to_own : (ℕ → ℕ → ℕ) → (ℕ → ℕ → ℕ) → ℕ → ℕ → ℕ → ℕ → Tables → Tables
moved_to_own join rest m e p c x = adjusted (λ v. join v m) (adjusted (λ v. rest v m) x e c (Row p)) e c OwnPenalty

-- where the candidate c of the entry e is open, the least of its row in the pair p is so moved
abbrev pub row_to_own : (ℕ → ℕ → ℕ) → (ℕ → ℕ → ℕ) → ℕ → ℕ → ℕ → Tables → Tables
row_to_own join rest e p c x = if open_at x e c then moved_to_own join rest (row_least x e c p) e p c x else x

-- for each candidate of the entry e in turn
abbrev pub rows_to_own : (ℕ → ℕ → ℕ) → (ℕ → ℕ → ℕ) → ℕ → ℕ → Tables → Tables
rows_to_own join rest e p x = in_turn (row_to_own join rest e p) (count_of x e) x

-- for the first entry of the pair p, and then for the second
abbrev pub pair_to_own : (ℕ → ℕ → ℕ) → (ℕ → ℕ → ℕ) → ℕ → Tables → Tables
pair_to_own join rest p x = rows_to_own join rest (second_of x p) p (rows_to_own join rest (first_of x p) p x)

-- for each pair in order
abbrev pub pairs_to_own : (ℕ → ℕ → ℕ) → (ℕ → ℕ → ℕ) → Tables → Tables
pairs_to_own join rest x = in_turn (pair_to_own join rest) x.pairs.number x

-- the least own penalty of the open candidates of the entry e; 0 where none is open
abbrev pub own_least : Tables → ℕ → ℕ
own_least x e = unwrap_or (least_where (open_at x e) (own_of x e) (count_of x e)) 0

-- the list of own penalties, with g of each that is of an open candidate of the entry e
abbrev pub own_changed : (ℕ → ℕ) → Tables → ℕ → List ℕ
own_changed g x e = changed (open_at x e) (candidate_place e) g (count_of x e) x.entries.own

-- another floor
abbrev pub with_floor : Tables → ℕ → Tables
with_floor x floor = record { entries = x.entries; pairs = x.pairs; limits = record { floor = floor; ceiling = x.limits.ceiling; bound = x.limits.bound }; hand = x.hand }

-- the amount m is taken off each own penalty of an open candidate of the entry e, and joined to the floor
abbrev pub moved_to_floor : (ℕ → ℕ → ℕ) → (ℕ → ℕ → ℕ) → ℕ → ℕ → Tables → Tables
moved_to_floor join rest m e x = with_floor (with_own_list x (own_changed (λ v. rest v m) x e)) (join x.limits.floor m)

-- their least is so moved
abbrev pub entry_to_floor : (ℕ → ℕ → ℕ) → (ℕ → ℕ → ℕ) → ℕ → Tables → Tables
entry_to_floor join rest e x = moved_to_floor join rest (own_least x e) e x

-- for each entry in order
abbrev pub entries_to_floor : (ℕ → ℕ → ℕ) → (ℕ → ℕ → ℕ) → Tables → Tables
entries_to_floor join rest x = in_turn (entry_to_floor join rest) x.entries.number x

-- each candidate of the entry e that is open and may be closed is closed
abbrev pub entry_closed : (ℕ → ℕ → ℕ) → ℕ → Tables → Tables
entry_closed join e x = in_turn (λ c y. close_after join y e c) (count_of x e) x

-- for each entry in order
abbrev pub entries_closed : (ℕ → ℕ → ℕ) → Tables → Tables
entries_closed join x = in_turn (entry_closed join) x.entries.number x

-- a sweep: first the rows of each pair, then the own penalties of each entry, then the closings
abbrev pub sweep : (ℕ → ℕ → ℕ) → (ℕ → ℕ → ℕ) → Tables → Tables
sweep join rest x = entries_closed join (entries_to_floor join rest (pairs_to_own join rest x))

-- what no sweep changes
pub record Frame : Type 0 where
  pub entries_number : ℕ
  pub counts : List ℕ
  pub pairs_number : ℕ
  pub ends : List (ℕ × ℕ)
  pub ceiling : ℕ
  pub bound : ℕ
  pub hand : Option Hand

abbrev pub frame : Tables → Frame
frame x = record {
  entries_number = x.entries.number;
  counts = x.entries.counts;
  pairs_number = x.pairs.number;
  ends = x.pairs.ends;
  ceiling = x.limits.ceiling;
  bound = x.limits.bound;
  hand = x.hand;
}
