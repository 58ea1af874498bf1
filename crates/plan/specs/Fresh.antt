-- The tables of a new plan.
use Rattle.std.specs.Prelude.{ℕ, true, replicate, None}
use Rattle.plan.specs.declared.tables.Tables.{Tables}

-- no entries and no pairs, floor 0, the bound at the ceiling, nothing in hand
abbrev pub empty_tables : ℕ → Tables
empty_tables ceiling = record {
  entries = record { number = 0; counts = replicate 16 0; own = replicate 128 0; marks = replicate 128 true };
  pairs = record { number = 0; ends = replicate 24 (0, 0); cells = replicate 1536 0 };
  limits = record { floor = 0; ceiling = ceiling; bound = ceiling };
  hand = None;
}

-- a new plan has the ceiling 1
abbrev pub new_tables : Tables
new_tables = empty_tables 1
