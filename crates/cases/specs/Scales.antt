-- Worked cases of the two scales, at the ceiling 10.
use Rattle.std.specs.Prelude.{◌≡◌}
use Rattle.scale.specs.Ceilings.{clamped}
use Rattle.scale.specs.Sums.{sum_join, sum_rest}
use Rattle.scale.specs.Worsts.{worst_join, worst_rest}

pub record ScaleCases : Type 0 where
  pub sum_join_stops_at_the_ceiling : clamped sum_join 10 6 7 ≡ 10
  pub sum_rest_is_the_difference : clamped sum_rest 10 9 4 ≡ 5
  pub sum_rest_keeps_the_ceiling : clamped sum_rest 10 10 4 ≡ 10
  pub worst_join_is_the_larger : clamped worst_join 10 3 5 ≡ 5
  pub worst_rest_is_all : clamped worst_rest 10 5 3 ≡ 5
