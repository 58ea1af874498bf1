-- Room that was made before a text is read, so that reading cannot want for memory.
use Rattle.std.specs.Prelude.{ℕ, ◌+◌, ◌≤◌, vec_capacity, vec_len}
use Rattle.plan_text.specs.declared.lists.PlanLists.{PlanLists}

-- room for the counts of 16 entries, and for n more own penalties and records
pub record RoomFor (x : PlanLists) (n : ℕ) : Type 0 where
  pub counts : 16 ≤ vec_capacity x.counts
  pub own : vec_len x.own + n ≤ vec_capacity x.own
  pub pairs : vec_len x.pairs + n ≤ vec_capacity x.pairs
