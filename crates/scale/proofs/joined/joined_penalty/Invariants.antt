use Rattle.std.proofs.Common.{◌≡◌, take}
use Rattle.scale.specs.Joins.{joined}
use Rattle.scale.proofs.joined.joined_penalty.Given as goal

-- the penalties seen so far are joined
abbrev pub invariant-loop-penalty : goal.invariant-loop-penalty
invariant-loop-penalty g l = l.total ≡ joined (g.S.Scale.join l.scale l.ceiling) (take l.penalty-index l.points)
