-- Tables that lists have filled are sound, and each tuning costs its filled cost.
use Rattle.std.proofs.Common.{◌≡◌, ℕ, zero, suc, ◌+◌, ◌<◌, ◌≤◌, true, false, List, ◌∷◌, ◌++◌, map, length, get_or, filter, sym, refl, ap, subst, ◌∙◌, ⊎_elim, zero-add, arith}
use Rattle.std.specs.List.{range_with_len}
use Rattle.std.proofs.lemmas.List.{get_or_past, get_or-replicate}
use Rattle.std.proofs.lemmas.Bool.{cases_Bool, cond_both}
use Rattle.std.proofs.lemmas.Bool.Decides.{nat_tests}
use Rattle.scale.specs.Joins.{joined, joined_over}
use Rattle.scale.specs.Laws.{Lawful}
use Rattle.scale.proofs.JoinedLists.{joined_zero, joined_append}
use Rattle.scale.proofs.JoinedRanges.{over_same}
use Rattle.plan.specs.declared.records.PairRecord.{PairRecord}
use Rattle.plan.specs.declared.tables.Pairs.{Pairs}
use Rattle.plan.specs.declared.tables.Tables.{Tables}
use Rattle.plan.specs.Costs.{own_part, cell_part, cost}
use Rattle.plan.specs.Fillable.{ListsFit, ListedTuning, OpenAsListed, named_by, filled_cost}
use Rattle.plan.specs.Filling.{listed_own, pair_place, with_pair, with_cell, with_records, filled_tables}
use Rattle.plan.specs.Fresh.{new_tables}
use Rattle.plan.specs.Invariant.{Sound}
use Rattle.plan.specs.Layout.{candidate_place, cell_place, count_of}
use Rattle.plan.specs.Records.{at, of_pair, pair_met, pairs_of}
use Rattle.plan.proofs.NewPlans.{zeros}
use Rattle.plan.proofs.OpenTunings.{tuning_from_open}
use Rattle.plan.proofs.OwnRows.{length_rows, rows_at, rows_low}
use Rattle.plan.proofs.PairLists.{first_in, second_in, unmet}
use Rattle.plan.proofs.RecordCosts.{chosen, pairs_as_records}
use Rattle.plan.proofs.MetRecords.{met_by}
use Rattle.plan.proofs.Tracking.{cell_in, Holds, held}
use Rattle.plan.proofs.Writes.{written_in, written_low, set_low}

-- a listed pair is the pair of a record
from_record : (rs : List PairRecord) (k q : ℕ) → q < length (pairs_of rs k) →
    (j : ℕ) × (j < k) × ((at rs j).entry ≡ first_in (pairs_of rs k) q) × ((at rs j).other ≡ second_in (pairs_of rs k) q)
from_record rs k q h =
    let e = first_in (pairs_of rs k) q in
    let o = second_in (pairs_of rs k) q in
    ⊎_elim
    (λ (t : pair_met rs k e o ≡ true).
    let by = met_by (λ r. of_pair r e o) rs k t in
    let is = by.2 in
    (by.0, by.1, grind (arith, nat_tests), grind (arith, nat_tests)))
    (λ (f : pair_met rs k e o ≡ false). absurd (unmet rs k e o q f h refl refl))
    (cases_Bool (pair_met rs k e o))

-- records up to the ceiling leave cells up to it
cells_low : (c : ℕ) (rs : List PairRecord) (k : ℕ) → ((j : ℕ) → j < k → (at rs j).points ≤ c) → (i : ℕ) → get_or (with_records rs k new_tables.pairs).cells i 0 ≤ c
cells_low c rs zero low i = omega (arith, zeros 1536 i)
cells_low c rs (suc k) low i =
    let x = with_records rs k new_tables.pairs in
    let r = at rs k in
    let rec = cells_low c rs k (λ j l. low j (omega arith)) in
    let here = low k (omega arith) in
    cond_both _ (with_pair x r.entry r.other) x
    (λ (y : Pairs). get_or (with_cell y (cell_place (pair_place x r.entry r.other) r.candidate r.choice) r.points).cells i 0 ≤ c)
    (λ _. set_low c x.cells _ r.points here rec i) (λ _. set_low c x.cells _ r.points here rec i)

module _ (c : ℕ) (counts own : List ℕ) (rs : List PairRecord) (fit : ListsFit c counts own rs) where
  abbrev x : Tables
  x = filled_tables c counts own rs

  abbrev ps : List (ℕ × ℕ)
  ps = pairs_of rs (length rs)

  holds : Holds rs (length rs) x.pairs
  holds = held c counts rs fit.each_few fit.records_fit (length rs) (omega arith)

  count_is : (e : ℕ) → e < length counts → count_of x e ≡ get_or counts e 0
  count_is e h =
      let place : 0 + e ≡ e = zero-add e in
      let few = fit.few_counts in
      rw place at (written_in 0 (λ i. get_or counts i 0) (length counts) new_tables.entries.counts e 0 (omega arith) h)

  -- each pair is of two entries that are there
  ends : (q : ℕ) → q < x.pairs.number → (first_in ps q < second_in ps q) × (second_in ps q < length counts)
  ends q l =
      let from = from_record rs (length rs) q (omega (arith, holds.many)) in
      let o = fit.records_fit.lower_first from.0 from.1 in
      let i = fit.records_fit.entries_there from.0 from.1 in
      let fe = from.2 in
      let se = from.3 in
      (omega arith, omega arith)

  own_low : (i : ℕ) → get_or own i 0 ≤ c
  own_low i = let past = get_or_past own i 0 in let low = fit.own_low i in grind arith

  pub filled_sound : Sound x
  filled_sound = (
    (
      fit.few_counts,
      (λ e h. omega (arith, fit.each_some e h, count_is e h)),
      written_low 8 0 (λ i. get_or counts i 0) (length counts) new_tables.entries.counts fit.each_few (λ i. omega (arith, zeros 16 i)),
      length_rows counts own (length counts) new_tables.entries.own,
      refl,
    ),
    (
      omega (arith, holds.many, fit.records_fit.few_pairs),
      (λ p h. subst (λ (pair : ℕ × ℕ). pair.0 < pair.1) (sym (holds.ends p h)) (ends p h).0),
      (λ p h. subst (λ (pair : ℕ × ℕ). pair.1 < length counts) (sym (holds.ends p h)) (ends p h).1),
      holds.long_cells,
    ),
    (fit.ceiling_low, omega arith, fit.ceiling_high),
    (omega arith, rows_low counts own c (length counts) new_tables.entries.own own_low (λ i. omega (arith, zeros 128 i)), cells_low c rs (length rs) fit.records_fit.points_low, omega arith),
    refl,
  )

  -- all that the lists name is open
  pub open_as_listed : (t : List ℕ) → OpenAsListed counts x t
  open_as_listed t = (
    (λ o. record { for_each = o.for_each; there = λ e h. let l = (tuning_from_open x t o).there e h in omega (arith, l, count_is e h) }),
    (λ l. record {
      for_each = l.for_each;
      opens = λ e h.
          let c = get_or t e 0 in
          let there = l.there e h in
          let count = count_is e h in
          let few = fit.each_few e h in
          let marked = get_or-replicate 128 (candidate_place e c) true false (omega (arith, fit.few_counts)) in
          grind (arith, nat_tests);
    }),
  )

  module _ {join rest : ℕ → ℕ → ℕ} (law : Lawful c join rest) (t : List ℕ) (tuning : ListedTuning counts t) where
    same_own : (e : ℕ) → e < length counts → own_part x t e ≡ listed_own counts own e (get_or t e 0)
    same_own e h = rows_at counts own (length counts) new_tables.entries.own e (get_or t e 0) refl fit.few_counts fit.each_few h (tuning.there e h)

    same_cell : (q : ℕ) → q < x.pairs.number → cell_part x t q ≡ chosen law counts rs fit.records_fit t (length rs) q
    same_cell q l =
        let f = first_in ps q in
        let s = second_in ps q in
        let i = ends q l in
        let a = tuning.there f (omega arith) in
        let b = tuning.there s (omega arith) in
        let fa = fit.each_few f (omega arith) in
        let fb = fit.each_few s (omega arith) in
        ap (λ (pair : ℕ × ℕ). cell_in x.pairs q (get_or t pair.0 0) (get_or t pair.1 0)) (holds.ends q l)
        ∙ holds.cells q (get_or t f 0) (get_or t s 0) l (omega (arith, holds.many, fit.records_fit.few_pairs)) (omega arith) (omega arith)

    pub costs_filled : cost join x t ≡ filled_cost join counts own rs t
    costs_filled =
        let n = length counts in
        let m = x.pairs.number in
        let owns = map (own_part x t) (range_with_len 0 n) in
        let cells = map (cell_part x t) (range_with_len 0 m) in
        let listed = map (λ e. listed_own counts own e (get_or t e 0)) (range_with_len 0 n) in
        let points = map (λ (r : PairRecord). r.points) (filter (named_by t) rs) in
        let of_own : joined join owns ≡ joined join listed = over_same join n (own_part x t) (λ e. listed_own counts own e (get_or t e 0)) same_own in
        let of_cells : joined join cells ≡ joined join points =
        over_same join m (cell_part x t) (chosen law counts rs fit.records_fit t (length rs)) same_cell
        ∙ ap (λ (k : ℕ). joined_over join k (chosen law counts rs fit.records_fit t (length rs))) holds.many
        ∙ pairs_as_records law counts rs fit.records_fit t in
        joined_zero law (0 ∷ (owns ++ cells)) ∙ joined_zero law (owns ++ cells) ∙ joined_append law owns cells
        ∙ ap (λ (a : ℕ). join a (joined join cells)) of_own ∙ ap (join (joined join listed)) of_cells ∙ sym (joined_append law listed points)
