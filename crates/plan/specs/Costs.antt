-- What a tuning costs.
use Rattle.std.specs.Prelude.{ℕ, if◌then◌else◌, List, ◌∷◌, ◌++◌, map, Some, None, Ok, Err, Option, Result, ◌==◌, slice_index}
use Rattle.std.specs.List.{range_with_len}
use Rattle.scale.specs.Joins.{joined}
use Rattle.plan.specs.declared.refusals.Refusal.{Refusal}
use Rattle.plan.specs.declared.refusals.Refusal.TheVariants.{Absent}
use Rattle.plan.specs.declared.tables.Hand.{Hand}
use Rattle.plan.specs.declared.tables.Tables.{Tables}
use Rattle.plan.specs.Layout.{own_of, first_of, second_of, cell_of}
use Rattle.plan.specs.Tunings.{is_open_tuning}

-- the amount in hand, where it is for a candidate of the tuning
abbrev pub hand_part : Option Hand → List ℕ → ℕ
hand_part None t = 0
hand_part (Some h) t = if slice_index t h.entry == h.candidate then h.amount else 0

-- the own penalty of the tuning's candidate of the entry e
abbrev pub own_part : Tables → List ℕ → ℕ → ℕ
own_part x t e = own_of x e (slice_index t e)

-- the tuning's cell of the pair p
abbrev pub cell_part : Tables → List ℕ → ℕ → ℕ
cell_part x t p = cell_of x p (slice_index t (first_of x p)) (slice_index t (second_of x p))

-- all that the tuning t pays: the floor, an amount in hand for its candidates, its own penalties, its cell of every pair
abbrev pub parts : Tables → List ℕ → List ℕ
parts x t =
    x.limits.floor ∷ hand_part x.hand t ∷ map (own_part x t) (range_with_len 0 x.entries.number) ++ map (cell_part x t) (range_with_len 0 x.pairs.number)

-- its cost
abbrev pub cost : (ℕ → ℕ → ℕ) → Tables → List ℕ → ℕ
cost join x t = joined join (parts x t)

-- what is answered for a list of candidates
abbrev pub cost_answer : (ℕ → ℕ → ℕ) → Tables → List ℕ → Result ℕ Refusal
cost_answer join x t = if is_open_tuning x t then Ok (cost join x t) else Err Absent
