-- The lists of a plan, and how lines make them.
use Rattle.std.specs.Prelude.{ℕ, ◌+◌, Bool, true, if◌then◌else◌, ◌&&◌, List, [], ◌∷◌, ◌++◌, length, ◌==◌, nat_lt, slice_index, slice_set, vec_items}
use Rattle.plan.specs.declared.records.PairRecord.{PairRecord}
use Rattle.plan_text.specs.declared.lines.Line.{Line}
use Rattle.plan_text.specs.declared.lines.Line.TheVariants.{Own, Pair}
use Rattle.plan_text.specs.declared.lists.PlanLists.{PlanLists}

-- the number of candidates of each entry, own penalties by entry and then candidate, and records of pairs
pub record Listed : Type 0 where
  pub counts : List ℕ
  pub own : List ℕ
  pub pairs : List PairRecord

-- the lists before any line
abbrev pub nothing : Listed
nothing = record { counts = []; own = []; pairs = [] }

-- what the lists of a program hold
abbrev pub listed : PlanLists → Listed
listed x = record { counts = vec_items x.counts; own = vec_items x.own; pairs = vec_items x.pairs }

-- an own line of this entry and candidate comes next: candidate 0 of the next entry, or the next candidate of the last
-- entry, up to entry 15 and candidate 7
abbrev pub is_next : List ℕ → ℕ → ℕ → Bool
is_next counts e c =
    nat_lt e 16 && (nat_lt c 8 && (if c == 0 then e == length counts else (e + 1 == length counts && c == slice_index counts e)))

-- a line may come after those that made the lists: an own line in its order, before all pair lines
abbrev pub may_come : Listed → Line → Bool
may_come x (Own e c p) = length x.pairs == 0 && is_next x.counts e c
may_come x (Pair r) = true

-- a candidate more
abbrev pub counted : List ℕ → ℕ → ℕ → List ℕ
counted counts e c = if c == 0 then counts ++ 1 ∷ [] else slice_set counts e (c + 1)

-- the lists with a line more
abbrev pub with_line : Listed → Line → Listed
with_line x (Own e c p) = record { counts = counted x.counts e c; own = x.own ++ p ∷ []; pairs = x.pairs }
with_line x (Pair r) = record { counts = x.counts; own = x.own; pairs = x.pairs ++ r ∷ [] }
