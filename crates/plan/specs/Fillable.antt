-- When lists fill a plan, and what its tunings then cost, in the words of the lists alone.
use Rattle.std.specs.Prelude.{◌≡◌, ℕ, ◌<◌, ◌≤◌, Bool, ◌&&◌, List, ◌++◌, map, length, sum, filter, ◌==◌, ◌≢◌, slice_index}
use Rattle.std.specs.List.{range_with_len}
use Rattle.scale.specs.Ceilings.{highest}
use Rattle.scale.specs.Joins.{joined}
use Rattle.plan.specs.declared.lists.Lists.{Lists}
use Rattle.plan.specs.declared.records.PairRecord.{PairRecord}
use Rattle.plan.specs.declared.tables.Tables.{Tables}
use Rattle.plan.specs.Filling.{listed_own}
use Rattle.plan.specs.Records.{at, pairs_of}
use Rattle.plan.specs.Tunings.{NamesEach, OpenTuning}

-- the records name two candidates that are there, the first of the lower entry; no two name the same cell; and together
-- they name at most 24 different pairs of entries
pub record RecordsFit (ceiling : ℕ) (counts : List ℕ) (rs : List PairRecord) : Type 0 where
  pub lower_first : (k : ℕ) → k < length rs → (at rs k).entry < (at rs k).other
  pub entries_there : (k : ℕ) → k < length rs → (at rs k).other < length counts
  pub candidate_there : (k : ℕ) → k < length rs → (at rs k).candidate < slice_index counts (at rs k).entry
  pub choice_there : (k : ℕ) → k < length rs → (at rs k).choice < slice_index counts (at rs k).other
  pub points_low : (k : ℕ) → k < length rs → (at rs k).points ≤ ceiling
  pub cells_once : (j k : ℕ) → j < k → k < length rs → (at rs j).entry ≡ (at rs k).entry → (at rs j).other ≡ (at rs k).other →
      (at rs j).candidate ≡ (at rs k).candidate → (at rs j).choice ≢ (at rs k).choice
  pub few_pairs : length (pairs_of rs (length rs)) ≤ 24

-- the ceiling is in range, there are 1 to 16 counts of 1 to 8, an own penalty for each candidate, no points above the
-- ceiling, and the records fit
pub record ListsFit (ceiling : ℕ) (counts own : List ℕ) (rs : List PairRecord) : Type 0 where
  pub ceiling_low : 1 ≤ ceiling
  pub ceiling_high : ceiling ≤ highest
  pub some_counts : 1 ≤ length counts
  pub few_counts : length counts ≤ 16
  pub each_some : (e : ℕ) → e < length counts → 1 ≤ slice_index counts e
  pub each_few : (e : ℕ) → e < length counts → slice_index counts e ≤ 8
  pub own_for_each : length own ≡ sum counts
  pub own_low : (i : ℕ) → i < length own → slice_index own i ≤ ceiling
  pub records_fit : RecordsFit ceiling counts rs

-- the plan is empty, and the lists fit
pub record Fillable (x : Tables) (ceiling : ℕ) (counts own : List ℕ) (rs : List PairRecord) : Type 0 where
  pub still_empty : x.entries.number ≡ 0
  pub lists_fit : ListsFit ceiling counts own rs

-- lists fill the tables x
abbrev pub FillableBy : Tables → Lists → Type 0
FillableBy x lists = Fillable x lists.ceiling lists.counts.now lists.own.now lists.records.now

-- the tuning t names both candidates of a record
abbrev pub named_by : List ℕ → PairRecord → Bool
named_by t r = r.candidate == slice_index t r.entry && r.choice == slice_index t r.other

-- the filled cost of a tuning: its penalties in the own list, and the points of each record whose two candidates it
-- names, joined
abbrev pub filled_cost : (ℕ → ℕ → ℕ) → List ℕ → List ℕ → List PairRecord → List ℕ → ℕ
filled_cost join counts own rs t =
    joined join (map (λ e. listed_own counts own e (slice_index t e)) (range_with_len 0 (length counts)) ++ map (λ (r : PairRecord). r.points) (filter (named_by t) rs))

-- a tuning of the lists names a candidate for each count
abbrev pub ListedTuning : List ℕ → List ℕ → Type 0
ListedTuning counts t = NamesEach (length counts) (λ e. slice_index counts e) t

-- t is an open tuning of the plan exactly where it is a tuning of the lists
abbrev pub OpenAsListed : List ℕ → Tables → List ℕ → Type 0
OpenAsListed counts x t = (OpenTuning x t → ListedTuning counts t) × (ListedTuning counts t → OpenTuning x t)
