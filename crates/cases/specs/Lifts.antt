-- Worked cases of lifting and setting down, on the sum scale.
use Rattle.std.specs.Prelude.{◌≡◌, ℕ, List, [], ◌∷◌, Ok, Err}
use Rattle.scale.specs.Ceilings.{clamped}
use Rattle.scale.specs.Sums.{sum_join, sum_rest}
use Rattle.plan.specs.declared.place.Place.{Place}
use Rattle.plan.specs.declared.place.Place.TheVariants.{OwnPenalty, Row}
use Rattle.plan.specs.declared.records.PairRecord.{PairRecord}
use Rattle.plan.specs.declared.refusals.Refusal.TheVariants.{AmountOutOfRange}
use Rattle.plan.specs.declared.tables.Tables.{Tables}
use Rattle.plan.specs.Filling.{filled_tables}
use Rattle.plan.specs.Layout.{own_of, cell_of}
use Rattle.plan.specs.Lifting.{lift_token, lift_answer, lift_after, set_after}
use Rattle.plan.specs.Numbers.{number_of}

abbrev at : ℕ → ℕ → ℕ → ℕ → ℕ → PairRecord
at first candidate second choice points = record {
  entry = first;
  candidate = candidate;
  other = second;
  choice = choice;
  points = points;
}

-- a candidate with the row 2, 3
abbrev pub row_two_three : Tables
row_two_three = filled_tables 10 (1 ∷ 2 ∷ []) (0 ∷ 0 ∷ 0 ∷ []) (at 0 0 1 0 2 ∷ at 0 0 1 1 3 ∷ [])

pub record AmountCases : Type 0 where
  pub two_is_lifted : lift_answer row_two_three (Row 0) 0 0 2 ≡ Ok (lift_token 0 0 2)
  pub three_is_not : lift_answer row_two_three (Row 0) 0 0 3 ≡ Err AmountOutOfRange
  pub nor_is_zero : lift_answer row_two_three (Row 0) 0 0 0 ≡ Err AmountOutOfRange
  pub its_number : number_of AmountOutOfRange ≡ 10

-- three entries of three candidates; pair 0 costs 2 and pair 1 costs 1 wherever the first candidate is not below the second
abbrev not_below : ℕ → ℕ → ℕ → List PairRecord → List PairRecord
not_below first second points more =
    at first 0 second 0 points
    ∷ at first 1 second 0 points
    ∷ at first 1 second 1 points
    ∷ at first 2 second 0 points
    ∷ at first 2 second 1 points
    ∷ at first 2 second 2 points
    ∷ more

abbrev pub three_entries : Tables
three_entries =
    filled_tables 100 (3 ∷ 3 ∷ 3 ∷ []) (0 ∷ 0 ∷ 0 ∷ 0 ∷ 0 ∷ 0 ∷ 0 ∷ 0 ∷ 0 ∷ [])
    (not_below 0 1 2 (not_below 1 2 1 []))

-- an amount of a candidate is lifted from one place and set down to another
abbrev pub moved : Tables → Place → Place → ℕ → ℕ → ℕ → Tables
moved tables from to entry candidate amount =
    set_after (clamped sum_join 100) (lift_after (clamped sum_rest 100) tables from entry candidate amount)
    entry candidate amount to

-- from a row to the own penalty it is projected; from the own penalty to a row it is extended
abbrev pub projected : Tables → ℕ → ℕ → ℕ → ℕ → Tables
projected tables pair entry candidate amount = moved tables (Row pair) OwnPenalty entry candidate amount

abbrev pub extended : Tables → ℕ → ℕ → ℕ → ℕ → Tables
extended tables pair entry candidate amount = moved tables OwnPenalty (Row pair) entry candidate amount

-- 2 is projected to (0, 2) and 1 to (1, 2), and that 1 is extended to pair 0
abbrev pub moved_twice : Tables
moved_twice = projected (projected three_entries 0 0 2 2) 1 1 2 1

abbrev pub moved_thrice : Tables
moved_thrice = extended moved_twice 0 1 2 1

pub record MovingCases : Type 0 where
  pub two_projected : own_of moved_twice 0 2 ≡ 2
  pub one_projected : own_of moved_twice 1 2 ≡ 1
  pub one_extended : own_of moved_thrice 1 2 ≡ 0
  pub the_row_is_two : cell_of moved_thrice 0 1 0 ≡ 2
  pub two_again : cell_of moved_thrice 0 1 1 ≡ 2
  pub and_one : cell_of moved_thrice 0 1 2 ≡ 1
  pub so_one_is_lifted : lift_answer moved_thrice (Row 0) 0 1 1 ≡ Ok (lift_token 0 1 1)
  pub and_projected : own_of (projected moved_thrice 0 0 1 1) 0 1 ≡ 1
