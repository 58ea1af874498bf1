-- Rows: the cells of a pair at a candidate, with the open candidates of the other entry.
use Rattle.std.specs.Prelude.{◌≡◌, ℕ, ◌<◌, zero, suc, min, Bool, true, false, if◌then◌else◌, ◌&&◌, ◌||◌, List, take, drop, Some, None, Option, ◌==◌, nat_lt, slice_index, slice_index_or, slice_set}
use Rattle.std.specs.Option.{unwrap_or}
use Rattle.plan.specs.declared.tables.Entries.{Entries}
use Rattle.plan.specs.declared.tables.Tables.{Tables}
use Rattle.plan.specs.Layout.{candidate_place, cell_place, count_of, open_at, first_of, second_of}

-- what is answered for each number below n is f of it; what is answered for any number is
abbrev pub ComputesBelow : ℕ → (ℕ → ℕ → Type 0) → (ℕ → ℕ) → Type 0
ComputesBelow n Answers f = (k answer : ℕ) → k < n → Answers k answer → answer ≡ f k

abbrev pub Computes : (ℕ → ℕ → Type 0) → (ℕ → ℕ) → Type 0
Computes Answers f = (k answer : ℕ) → Answers k answer → answer ≡ f k

-- what is answered for each number below n is below a limit
abbrev pub StaysBelow : ℕ → (ℕ → ℕ → Type 0) → ℕ → Type 0
StaysBelow n Answers limit = (k answer : ℕ) → k < n → Answers k answer → answer < limit

-- the mark k is set
abbrev pub is_marked : List Bool → ℕ → Bool
is_marked marks k = slice_index_or marks k false

-- the marks of the candidates of the entry e, from the first on
abbrev pub marks_of : Entries → ℕ → List Bool
marks_of x e = take (slice_index x.counts e) (drop (candidate_place e 0) x.marks)

-- the numbers at the places of those k below n that pass a test become g of what they were
abbrev pub changed_one : Bool → ℕ → (ℕ → ℕ) → List ℕ → List ℕ
changed_one false i g xs = xs
changed_one true i g xs = slice_set xs i (g (slice_index xs i))

abbrev pub changed : (ℕ → Bool) → (ℕ → ℕ) → (ℕ → ℕ) → ℕ → List ℕ → List ℕ
changed test place g zero xs = xs
changed test place g (suc k) xs = changed_one (test k) (place k) g (changed test place g k xs)

-- the least f k of those k below n that pass a test
abbrev pub lesser : Bool → ℕ → Option ℕ → Option ℕ
lesser false v low = low
lesser true v None = Some v
lesser true v (Some low) = Some (min low v)

abbrev pub least_where : (ℕ → Bool) → (ℕ → ℕ) → ℕ → Option ℕ
least_where test f zero = None
least_where test f (suc k) = lesser (test k) (f k) (least_where test f k)

-- the plan has the pair p, and e is one of its entries
abbrev pub is_at : Tables → ℕ → ℕ → Bool
is_at x e p = nat_lt p x.pairs.number && (first_of x p == e || second_of x p == e)

-- e is its first entry; its other entry
abbrev pub is_first : Tables → ℕ → ℕ → Bool
is_first x e p = first_of x p == e

abbrev pub other_of : Tables → ℕ → ℕ → ℕ
other_of x e p = if is_first x e p then second_of x p else first_of x p

-- the place of the cell of the candidate c and the candidate k of the other entry
abbrev pub row_place : Bool → ℕ → ℕ → ℕ → ℕ
row_place ahead p c k = cell_place p (if ahead then c else k) (if ahead then k else c)

-- the least number of the row at the candidate c of the entry e in the pair p; 0 where the row is empty
abbrev pub row_least : Tables → ℕ → ℕ → ℕ → ℕ
row_least x e c p =
    unwrap_or (least_where (open_at x (other_of x e p)) (λ k. slice_index x.pairs.cells (row_place (is_first x e p) p c k)) (count_of x (other_of x e p))) 0

-- the row with g of each number
abbrev pub row_changed : (ℕ → ℕ) → Tables → ℕ → ℕ → ℕ → List ℕ
row_changed g x e c p = changed (open_at x (other_of x e p)) (row_place (is_first x e p) p c) g (count_of x (other_of x e p)) x.pairs.cells
