use Rattle.std.proofs.Common.{◌≡◌, ℕ, ◌+◌, ◌++◌, map}
use Rattle.std.specs.List.{range_with_len}
use Rattle.arrayvec.specs.ArrayVec.{array_vec_len}
use Rattle.plan.specs.Rows.{ComputesBelow}
use Rattle.plan.proofs.parts.push_each.Given as goal

abbrev pub invariant-loop-k : goal.invariant-loop-k
invariant-loop-k g l =
    (array_vec_len l.parts ≡ array_vec_len l.initial.parts + l.k)
    × ((f : ℕ → ℕ) → ComputesBelow l.n (goal.F-post g l.part) f → l.parts.items ≡ l.initial.parts.items ++ map f (range_with_len 0 l.k))
