-- What a candidate weighs.
use Rattle.std.specs.Prelude.{ℕ, if◌then◌else◌, ◌&&◌, Some, None, Option, ◌==◌}
use Rattle.plan.specs.declared.tables.Hand.{Hand}
use Rattle.plan.specs.declared.tables.Tables.{Tables}
use Rattle.plan.specs.Layout.{own_of}

-- the amount in hand for the candidate c of the entry e
abbrev pub held_for : Option Hand → ℕ → ℕ → ℕ
held_for None e c = 0
held_for (Some h) e c = if h.entry == e && h.candidate == c then h.amount else 0

-- its weight: its own penalty, joined with an amount in hand for it
abbrev pub weight : (ℕ → ℕ → ℕ) → Tables → ℕ → ℕ → ℕ
weight join x e c = join (own_of x e c) (held_for x.hand e c)
