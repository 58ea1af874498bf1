-- Worked cases of closing, on the sum scale: bound 10, floor 1, and candidates of the weights 9 and 8.
use Rattle.std.specs.Prelude.{◌≡◌, [], ◌∷◌, None, Ok, Err}
use Rattle.scale.specs.Ceilings.{clamped}
use Rattle.scale.specs.Sums.{sum_join}
use Rattle.plan.specs.declared.refusals.Refusal.TheVariants.{NotAllowed}
use Rattle.plan.specs.declared.tables.Tables.{Tables}
use Rattle.plan.specs.Closing.{close_answer}
use Rattle.plan.specs.Filling.{filled_entries}
use Rattle.plan.specs.Fresh.{new_tables}
use Rattle.plan.specs.Numbers.{number_of}

abbrev pub two_weights : Tables
two_weights = record {
  entries = filled_entries (2 ∷ []) (9 ∷ 8 ∷ []);
  pairs = new_tables.pairs;
  limits = record { floor = 1; ceiling = 100; bound = 10 };
  hand = None;
}

pub record ClosingCases : Type 0 where
  pub weight_nine_closes : close_answer (clamped sum_join 100) two_weights 0 0 ≡ Ok tt
  pub weight_eight_does_not : close_answer (clamped sum_join 100) two_weights 0 1 ≡ Err NotAllowed
  pub its_number : number_of NotAllowed ≡ 15
