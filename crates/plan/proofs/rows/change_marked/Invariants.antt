use Rattle.std.proofs.Common.{◌≡◌, ℕ, length}
use Rattle.plan.specs.Rows.{Computes, ComputesBelow, changed, is_marked}
use Rattle.plan.proofs.rows.change_marked.Given as goal

abbrev pub invariant-loop-k : goal.invariant-loop-k
invariant-loop-k g l =
    (length l.numbers ≡ length l.initial.numbers)
    × ((at by : ℕ → ℕ) → ComputesBelow (length l.marks) (goal.P-post g l.place) at → Computes (goal.F-post g l.change) by →
    l.numbers ≡ changed (is_marked l.marks) at by l.k l.initial.numbers)
