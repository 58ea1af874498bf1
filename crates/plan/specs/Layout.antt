-- Where the numbers of a plan stand in its tables, and how they are read.
use Rattle.std.specs.Prelude.{ℕ, zero, suc, ◌+◌, ◌*◌, Bool, false, ◌&&◌, List, nat_lt, slice_index, slice_index_or, slice_set}
use Rattle.plan.specs.declared.tables.Tables.{Tables}

-- the place of the candidate c of the entry e, and of the cell of the candidates a and b in the pair p
abbrev pub candidate_place : ℕ → ℕ → ℕ
candidate_place e c = 8 * e + c

abbrev pub cell_place : ℕ → ℕ → ℕ → ℕ
cell_place p a b = 64 * p + 8 * a + b

-- the number of candidates of the entry e
abbrev pub count_of : Tables → ℕ → ℕ
count_of x e = slice_index x.entries.counts e

-- the own penalty of a candidate, and whether it is open
abbrev pub own_of : Tables → ℕ → ℕ → ℕ
own_of x e c = slice_index x.entries.own (candidate_place e c)

abbrev pub open_at : Tables → ℕ → ℕ → Bool
open_at x e c = slice_index_or x.entries.marks (candidate_place e c) false

-- the two entries of the pair p, and its cell for a candidate of each
abbrev pub ends_of : Tables → ℕ → ℕ × ℕ
ends_of x p = slice_index_or x.pairs.ends p (0, 0)

abbrev pub first_of : Tables → ℕ → ℕ
first_of x p = (ends_of x p).0

abbrev pub second_of : Tables → ℕ → ℕ
second_of x p = (ends_of x p).1

abbrev pub cell_of : Tables → ℕ → ℕ → ℕ → ℕ
cell_of x p a b = slice_index x.pairs.cells (cell_place p a b)

-- the plan has the candidate c of the entry e; it is open, too
abbrev pub is_there : Tables → ℕ → ℕ → Bool
is_there x e c = nat_lt e x.entries.number && nat_lt c (count_of x e)

abbrev pub is_open : Tables → ℕ → ℕ → Bool
is_open x e c = is_there x e c && open_at x e c

-- the plan has the pair p, and a candidate a of its first entry and b of its second
abbrev pub is_cell : Tables → ℕ → ℕ → ℕ → Bool
is_cell x p a b = nat_lt p x.pairs.number && (nat_lt a (count_of x (first_of x p)) && nat_lt b (count_of x (second_of x p)))

-- f 0, f 1, .., f (n - 1), written one after another from the place o on
abbrev pub written_from : {A : Type 0} → ℕ → (ℕ → A) → ℕ → List A → List A
written_from o f zero xs = xs
written_from o f (suc n) xs = slice_set (written_from o f n xs) (o + n) (f n)
