use Rattle.std.proofs.Common.{◌≡◌, ℕ, length}
use Rattle.plan.specs.Rows.{ComputesBelow, least_where, is_marked}
use Rattle.plan.proofs.rows.least_marked.Given as goal

abbrev pub invariant-loop-k : goal.invariant-loop-k
invariant-loop-k g l = (f : ℕ → ℕ) → ComputesBelow (length l.marks) (goal.F-post g l.number) f → l.least ≡ least_where (is_marked l.marks) f l.k
