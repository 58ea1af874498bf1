-- What a tuning pays by pairs is what it pays by records.
use Rattle.std.proofs.Common.{◌≡◌, ℕ, zero, suc, ◌<◌, ◌≤◌, false, cond, ◌&&◌, eqb, List, [], ◌∷◌, map, length, get_or, filter, sym, refl, ap, ◌∙◌, arith}
use Rattle.std.proofs.lemmas.List.FromFn.{fill_by_all}
use Rattle.std.proofs.lemmas.List.{length-map, get_or-map}
use Rattle.std.proofs.lemmas.Bool.Decides.{nat_tests}
use Rattle.scale.specs.Joins.{joined, joined_over}
use Rattle.scale.specs.Laws.{Lawful}
use Rattle.scale.proofs.JoinedLists.{zero_left, joined_cons, joined_zero}
use Rattle.scale.proofs.JoinedRanges.{over_more, over_zero, over_at}
use Rattle.plan.specs.declared.records.PairRecord.{PairRecord}
use Rattle.plan.specs.Fillable.{RecordsFit, named_by}
use Rattle.plan.specs.Records.{no_record, at, cell_met, pairs_of, points_of}
use Rattle.plan.proofs.Accepts.{never_repeated}
use Rattle.plan.proofs.PairLists.{first_in, second_in, apart, listed_at}

-- a cell that no record names has no points
unnamed : (rs : List PairRecord) (k e a o b : ℕ) → cell_met rs k e a o b ≡ false → points_of rs k e a o b ≡ 0
unnamed rs zero e a o b m = refl
unnamed rs (suc k) e a o b m = let rec = unnamed rs k e a o b in grind (arith, nat_tests)

module _ {c : ℕ} {join rest : ℕ → ℕ → ℕ} (law : Lawful c join rest) (counts : List ℕ) (rs : List PairRecord) (fit : RecordsFit c counts rs) (t : List ℕ) where
  -- the different pairs
  abbrev ps : List (ℕ × ℕ)
  ps = pairs_of rs (length rs)

  -- the points that the first k records give the tuning's cell of the pair q
  abbrev pub chosen : ℕ → ℕ → ℕ
  chosen k q = points_of rs k (first_in ps q) (get_or t (first_in ps q) 0) (second_in ps q) (get_or t (second_in ps q) 0)

  -- what a record adds to the tuning's cost
  abbrev adds : PairRecord → ℕ
  adds r = cond (named_by t r) r.points 0

  points_low : (k e a o b : ℕ) → k ≤ length rs → points_of rs k e a o b ≤ c
  points_low zero e a o b h = omega arith
  points_low (suc k) e a o b h =
      let rec = points_low k e a o b (omega arith) in
      let low = fit.points_low k (omega arith) in
      grind (arith, nat_tests)

  -- what the record k adds to a cell of its pair
  at_pair : (k a b : ℕ) → k < length rs →
      join (points_of rs k (at rs k).entry a (at rs k).other b) (cond (eqb (at rs k).candidate a && eqb (at rs k).choice b) (at rs k).points 0)
      ≡ points_of rs (suc k) (at rs k).entry a (at rs k).other b
  at_pair k a b h =
      let r = at rs k in
      let left = zero_left law r.points (fit.points_low k h) in
      let right = law.neutral (points_of rs k r.entry a r.other b) (points_low k r.entry a r.other b (omega arith)) in
      let none = unnamed rs k r.entry r.candidate r.other r.choice (never_repeated c counts rs fit k h) in
      grind (arith, nat_tests)

  by_records : (k : ℕ) → k ≤ length rs → joined_over join (length ps) (chosen k) ≡ joined_over join k (λ j. adds (at rs j))
  by_records zero h = over_zero law (length ps) (chosen 0) (λ i l. refl)
  by_records (suc k) h =
      let r = at rs k in
      let l = listed_at rs (length rs) k h in
      let q = l.place in
      let step = over_at law (length ps) q (adds r) (chosen k) (chosen (suc k)) l.within
      (λ i hi d. let same = apart rs (length rs) i q hi l.within in let f = l.first_is in let s = l.second_is in grind (arith, nat_tests))
      (rw (l.first_is, l.second_is) (at_pair k (get_or t r.entry 0) (get_or t r.other 0) h)) in
      sym step ∙ ap (λ (x : ℕ). join x (adds r)) (by_records k (omega arith)) ∙ sym (over_more join k (λ j. adds (at rs j)))

  -- the points of records that the tuning does not name may be left out
  kept_same : (xs : List PairRecord) → joined join (map (λ (r : PairRecord). r.points) (filter (named_by t) xs)) ≡ joined join (map adds xs)
  kept_same [] = refl
  kept_same (r ∷ xs) =
      let rec = kept_same xs in
      let all = joined_cons law (adds r) (map adds xs) in
      let kept = joined_cons law r.points (map (λ (s : PairRecord). s.points) (filter (named_by t) xs)) in
      let none = joined_zero law (map adds xs) in
      grind (arith, nat_tests)

  by_list : joined_over join (length rs) (λ j. adds (at rs j)) ≡ joined join (map adds rs)
  by_list = sym (ap (joined join) (fill_by_all (λ j. adds (at rs j)) (map adds rs) (length rs) 0 (length-map rs adds) (λ j l. get_or-map adds rs j no_record 0 l)))

  -- the tuning's cells of all pairs join to the points of the records that it names
  pub pairs_as_records : joined_over join (length ps) (chosen (length rs)) ≡ joined join (map (λ (r : PairRecord). r.points) (filter (named_by t) rs))
  pairs_as_records = by_records (length rs) (omega arith) ∙ by_list ∙ sym (kept_same rs)
