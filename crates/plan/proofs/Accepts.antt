-- No fault is found exactly where the lists fit and the plan is empty.
use Rattle.std.proofs.Common.{◌≡◌, ℕ, zero, suc, ◌<◌, ◌≤◌, Bool, true, false, cond, List, length, get_or, Some, None, sum, Option, refl, ⊎_elim, arith, Ok, Err, Result, MatchResult}
use Rattle.std.proofs.lemmas.List.{length_push}
use Rattle.std.proofs.lemmas.List.Sums.{sum_by-le}
use Rattle.std.proofs.lemmas.List.Elements.{All-from_get_or}
use Rattle.std.proofs.lemmas.Bool.{cases_eq, cases_Bool}
use Rattle.std.proofs.lemmas.Bool.Decides.{nat_tests}
use Rattle.plan.specs.declared.lists.Lists.{Lists}
use Rattle.plan.specs.declared.records.PairRecord.{PairRecord}
use Rattle.plan.specs.declared.refusals.FillFault.{FillFault}
use Rattle.plan.specs.declared.tables.Tables.{Tables}
use Rattle.plan.specs.Faults.{first_fault, count_fault, counts_fault, penalty_fault, own_fault, record_fault, fill_fault, fault_of}
use Rattle.plan.specs.Fillable.{RecordsFit, Fillable, FillableBy}
use Rattle.plan.specs.Records.{at, names_cell, known_pair, repeated_cell, pairs_of}
use Rattle.plan.specs.Refusing.{Finds}
use Rattle.plan.proofs.Firsts.{none_at, none_below}
use Rattle.plan.proofs.MetRecords.{repeated_by, met_by}

-- where a test decides between a fault and what comes later, none is found only if it passes
pub passed : {A : Type 0} (b : Bool) (fault : A) (later : Option A) → cond b later (Some fault) ≡ None → (b ≡ true) × (later ≡ None)
passed true fault later e = (refl, e)
passed false fault later e = cc

pub not_failed : {A : Type 0} (b : Bool) (fault : A) (later : Option A) → cond b (Some fault) later ≡ None → (b ≡ false) × (later ≡ None)
not_failed true fault later e = cc
not_failed false fault later e = (refl, e)

module _ (counts : List ℕ) where
  pub record CountsFit : Type 0 where
    pub some : 1 ≤ length counts
    pub few : length counts ≤ 16
    pub each_some : (e : ℕ) → e < length counts → 1 ≤ get_or counts e 0
    pub each_few : (e : ℕ) → e < length counts → get_or counts e 0 ≤ 8

  pub counts_fit : counts_fault counts ≡ None → CountsFit
  counts_fit e =
      let none : first_fault (count_fault counts) (length counts) ≡ None = grind (arith, nat_tests) in
      let each = λ (k : ℕ) (h : k < length counts). none_at (count_fault counts) (length counts) k h none in
      record {
        some = grind (arith, nat_tests);
        few = grind (arith, nat_tests);
        each_some = λ k h. let fine = each k h in grind (arith, nat_tests);
        each_few = λ k h. let fine = each k h in grind (arith, nat_tests);
      }

  counts_clean : CountsFit → counts_fault counts ≡ None
  counts_clean f =
      let none = none_below (count_fault counts) (length counts) (λ k h. let some = f.each_some k h in let few = f.each_few k h in grind (arith, nat_tests)) in
      let some = f.some in
      let few = f.few in
      grind (arith, nat_tests)

-- so there are at most 128 candidates
pub few_candidates : (counts : List ℕ) → CountsFit counts → sum counts ≤ 128
few_candidates counts fit = omega (arith, sum_by-le (λ (n : ℕ). n) 8 counts (All-from_get_or (λ n. n ≤ 8) counts 0 fit.each_few), fit.few)

module _ (ceiling : ℕ) (counts own : List ℕ) where
  own_fit : own_fault ceiling counts own ≡ None → (length own ≡ sum counts) × ((i : ℕ) → i < length own → get_or own i 0 ≤ ceiling)
  own_fit e =
      let none : first_fault (penalty_fault ceiling own) (length own) ≡ None = grind (arith, nat_tests) in
      (grind (arith, nat_tests), λ i h. let fine = none_at (penalty_fault ceiling own) (length own) i h none in grind (arith, nat_tests))

  own_clean : length own ≡ sum counts → ((i : ℕ) → i < length own → get_or own i 0 ≤ ceiling) → own_fault ceiling counts own ≡ None
  own_clean for_each low =
      let none = none_below (penalty_fault ceiling own) (length own) (λ i h. let l = low i h in grind (arith, nat_tests)) in
      grind (arith, nat_tests)

module _ (ceiling : ℕ) (counts : List ℕ) (rs : List PairRecord) where
  -- pairs only become more
  pub pairs_grow : (k n : ℕ) → k ≤ n → length (pairs_of rs k) ≤ length (pairs_of rs n)
  pairs_grow k zero h = let z : k ≡ 0 = omega arith in rw z (omega arith)
  pairs_grow k (suc n) h =
      let lp = length_push (pairs_of rs n) ((at rs n).entry, (at rs n).other) in
      let rec = pairs_grow k n in
      ⊎_elim (λ (q : k ≡ suc n). rw q (omega arith)) (λ (d : k ≡ suc n → ⊥). grind (arith, nat_tests)) (cases_eq k (suc n))

  pairs_few : (n : ℕ) → ((k : ℕ) → k < n → known_pair rs k ≡ false → length (pairs_of rs k) < 24) → length (pairs_of rs n) ≤ 24
  pairs_few zero h = omega arith
  pairs_few (suc n) h =
      let lp = length_push (pairs_of rs n) ((at rs n).entry, (at rs n).other) in
      let rec = pairs_few n (λ k l. h k (omega arith)) in
      let last = h n (omega arith) in
      grind (arith, nat_tests)

  module _ (none : first_fault (record_fault ceiling counts rs) (length rs) ≡ None) where
    fine : (k : ℕ) → k < length rs → record_fault ceiling counts rs k ≡ None
    fine k h = none_at (record_fault ceiling counts rs) (length rs) k h none

    records_fit : RecordsFit ceiling counts rs
    records_fit = record {
      lower_first = λ k h. let f = fine k h in grind (arith, nat_tests);
      entries_there = λ k h. let f = fine k h in grind (arith, nat_tests);
      candidate_there = λ k h. let f = fine k h in grind (arith, nat_tests);
      choice_there = λ k h. let f = fine k h in grind (arith, nat_tests);
      points_low = λ k h. let f = fine k h in grind (arith, nat_tests);
      cells_once = λ j k l h e1 e2 e3 e4. let f = fine k h in let twice = repeated_by rs j k l in grind (arith, nat_tests);
      few_pairs = pairs_few (length rs) (λ k h new. let f = fine k h in grind (arith, nat_tests));
    }

  module _ (fit : RecordsFit ceiling counts rs) where
    -- no record that fits repeats a cell
    pub never_repeated : (k : ℕ) → k < length rs → repeated_cell rs k ≡ false
    never_repeated k h =
        ⊎_elim
        (λ (t : repeated_cell rs k ≡ true).
        let by = met_by (λ r. names_cell r (at rs k).entry (at rs k).candidate (at rs k).other (at rs k).choice) rs k t in
        let not_two = fit.cells_once by.0 k by.1 h in
        let named = by.2 in
        absurd (grind (arith, nat_tests)))
        (λ (f : repeated_cell rs k ≡ false). f)
        (cases_Bool (repeated_cell rs k))

    -- and there is room for its pair
    pub room_for_pair : (k : ℕ) → k < length rs → known_pair rs k ≡ false → length (pairs_of rs k) < 24
    room_for_pair k h new =
        let lp = length_push (pairs_of rs k) ((at rs k).entry, (at rs k).other) in
        let grow = pairs_grow (suc k) (length rs) h in
        let few = fit.few_pairs in
        grind (arith, nat_tests)

    records_clean : first_fault (record_fault ceiling counts rs) (length rs) ≡ None
    records_clean = none_below (record_fault ceiling counts rs) (length rs) (λ k h.
        let o = fit.lower_first k h in
        let i = fit.entries_there k h in
        let c = fit.candidate_there k h in
        let d = fit.choice_there k h in
        let low = fit.points_low k h in
        let once = never_repeated k h in
        let room = room_for_pair k h in
        grind (arith, nat_tests))

module _ (x : Tables) (ceiling : ℕ) (counts own : List ℕ) (rs : List PairRecord) where
  -- what is accepted fits
  pub fillable : fill_fault x ceiling counts own rs ≡ None → Fillable x ceiling counts own rs
  fillable e =
      let counts_none : counts_fault counts ≡ None = grind (arith, nat_tests) in
      let own_none : own_fault ceiling counts own ≡ None = grind (arith, nat_tests) in
      let records_none : first_fault (record_fault ceiling counts rs) (length rs) ≡ None = grind (arith, nat_tests) in
      let of_counts = counts_fit counts counts_none in
      let of_own = own_fit ceiling counts own own_none in
      record {
        still_empty = grind (arith, nat_tests);
        lists_fit = record {
          ceiling_low = grind (arith, nat_tests);
          ceiling_high = grind (arith, nat_tests);
          some_counts = of_counts.some;
          few_counts = of_counts.few;
          each_some = of_counts.each_some;
          each_few = of_counts.each_few;
          own_for_each = of_own.0;
          own_low = of_own.1;
          records_fit = records_fit ceiling counts rs records_none;
        };
      }

  -- what fits is accepted
  pub accepted : Fillable x ceiling counts own rs → fill_fault x ceiling counts own rs ≡ None
  accepted f =
      let l = f.lists_fit in
      let of_counts = counts_clean counts (record { some = l.some_counts; few = l.few_counts; each_some = l.each_some; each_few = l.each_few }) in
      let of_own = own_clean ceiling counts own l.own_for_each l.own_low in
      let of_records = records_clean ceiling counts rs l.records_fit in
      grind (arith, nat_tests)

-- so a check that finds the first fault decides
pub decided : (x : Tables) (lists : Lists) (result : Result (Unit {0}) FillFault) → Finds (fault_of x lists) result →
    MatchResult result (λ _. FillableBy x lists) (λ _. ¬ FillableBy x lists)
decided x lists (Ok done) none = fillable x lists.ceiling lists.counts.now lists.own.now lists.records.now none
decided x lists (Err fault) found = λ f. let none = accepted x lists.ceiling lists.counts.now lists.own.now lists.records.now f in cc
