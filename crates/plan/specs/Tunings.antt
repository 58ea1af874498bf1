-- Tunings: one candidate for each entry, by entry.
use Rattle.std.specs.Prelude.{◌≡◌, ℕ, zero, suc, ◌<◌, Bool, true, ◌&&◌, List, length, ◌==◌, slice_index}
use Rattle.plan.specs.declared.tables.Tables.{Tables}
use Rattle.plan.specs.Layout.{count_of, is_open}

-- t names a candidate that is there for each of n entries, the entry e having count e of them
pub record NamesEach (n : ℕ) (count : ℕ → ℕ) (t : List ℕ) : Type 0 where
  pub for_each : length t ≡ n
  pub there : (e : ℕ) → e < n → slice_index t e < count e

-- t is a tuning of the plan; it is open when all of its candidates are
abbrev pub Tuning : Tables → List ℕ → Type 0
Tuning x t = NamesEach x.entries.number (count_of x) t

pub record OpenTuning (x : Tables) (t : List ℕ) : Type 0 where
  pub for_each : length t ≡ x.entries.number
  pub opens : (e : ℕ) → e < x.entries.number → is_open x e (slice_index t e) ≡ true

-- the first n candidates of t are open
abbrev pub opens_first : Tables → List ℕ → ℕ → Bool
opens_first x t zero = true
opens_first x t (suc n) = opens_first x t n && is_open x n (slice_index t n)

-- whether t is an open tuning
abbrev pub is_open_tuning : Tables → List ℕ → Bool
is_open_tuning x t = length t == x.entries.number && opens_first x t x.entries.number
