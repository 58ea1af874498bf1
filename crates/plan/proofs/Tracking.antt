-- The pairs track the records that are written to them.
use Rattle.std.proofs.Common.{◌≡◌, ℕ, zero, suc, ◌<◌, ◌≤◌, true, false, cond, ◌&&◌, eqb, List, [], ◌∷◌, ◌++◌, length, get_or, set, refl, ◌∙◌, ⊎_elim, arith}
use Rattle.std.proofs.lemmas.List.{length-set, length_push, length-replicate}
use Rattle.std.proofs.lemmas.Bool.{cases_Bool, cond-true, cond-false, eq-eqb, ne_eqb}
use Rattle.std.proofs.lemmas.Bool.Decides.{nat_tests}
use Rattle.plan.specs.declared.records.PairRecord.{PairRecord}
use Rattle.plan.specs.declared.tables.Pairs.{Pairs}
use Rattle.plan.specs.Records.{at, pair_met, known_pair, pairs_of, points_of}
use Rattle.plan.specs.Filling.{pair_place, with_pair, with_room_for, with_cell, with_record, with_records, Writable}
use Rattle.plan.specs.Fillable.{RecordsFit}
use Rattle.plan.specs.Fresh.{new_tables}
use Rattle.plan.specs.Layout.{cell_place}
use Rattle.plan.proofs.PairLists.{get_or-push, unmet, apart, listed}
use Rattle.plan.proofs.Accepts.{pairs_grow, room_for_pair}
use Rattle.plan.proofs.NewPlans.{zeros}
use Rattle.plan.proofs.PairPlaces.{place_top, place_hit, place_miss}
use Rattle.plan.proofs.Writes.{set_at}

-- the cell of the candidates a and b in the pair q
abbrev pub cell_in : Pairs → ℕ → ℕ → ℕ → ℕ
cell_in x q a b = get_or x.cells (cell_place q a b) 0

-- the pairs are ps, and their cells have the points of the first k records; past them all is 0
pub record Tracks (rs : List PairRecord) (k : ℕ) (ps : List (ℕ × ℕ)) (x : Pairs) : Type 0 where
  pub many : x.number ≡ length ps
  pub ends : (q : ℕ) → q < x.number → get_or x.ends q (0, 0) ≡ get_or ps q (0, 0)
  pub cells : (q a b : ℕ) → q < x.number → q < 24 → a < 8 → b < 8 → cell_in x q a b ≡ points_of rs k (get_or ps q (0, 0)).0 a (get_or ps q (0, 0)).1 b
  pub zeros : (q a b : ℕ) → x.number ≤ q → q < 24 → a < 8 → b < 8 → cell_in x q a b ≡ 0
  pub long_ends : length x.ends ≡ 24
  pub long_cells : length x.cells ≡ 1536

abbrev pub Holds : List PairRecord → ℕ → Pairs → Type 0
Holds rs k x = Tracks rs k (pairs_of rs k) x

-- a cell of a pair that no record is of is 0
pairless : (rs : List PairRecord) (k e a o b : ℕ) → pair_met rs k e o ≡ false → points_of rs k e a o b ≡ 0
pairless rs zero e a o b m = refl
pairless rs (suc k) e a o b m = let rec = pairless rs k e a o b in grind (arith, nat_tests)

module _ (rs : List PairRecord) (k : ℕ) (x : Pairs) (h : Holds rs k x) where
  -- a known pair is where it is listed
  place_known : (e o : ℕ) → pair_met rs k e o ≡ true → pair_place x e o < x.number
  place_known e o m =
      let l = listed rs k e o m in
      let top = place_top x e o x.number in
      let many = h.many in
      let same = h.ends l.place in
      let miss = place_miss x e o x.number l.place in
      let within = l.within in
      let fi = l.first_is in
      let si = l.second_is in
      grind (arith, nat_tests)

  place_new : (e o : ℕ) → pair_met rs k e o ≡ false → pair_place x e o ≡ x.number
  place_new e o m =
      let top = place_top x e o x.number in
      let many = h.many in
      let hit = place_hit x e o x.number in
      let p = pair_place x e o in
      let same = h.ends p in
      let none = unmet rs k e o p m in
      grind (arith, nat_tests)

  -- what is needed of the record that is written
  module _ (low_a : (at rs k).candidate < 8) (low_b : (at rs k).choice < 8) where
    abbrev r : PairRecord
    r = at rs k

    -- the record's cell is written at the pair p
    cell_put : (p q a b : ℕ) → p < 24 → q < 24 → a < 8 → b < 8 → get_or (set x.cells (cell_place p r.candidate r.choice) r.points) (cell_place q a b) 0 ≡ cond (eqb q p && (eqb r.candidate a && eqb r.choice b)) r.points (cell_in x q a b)
    cell_put p q a b hp hq ha hb =
        let long = h.long_cells in
        let put = set_at x.cells (cell_place p r.candidate r.choice) (cell_place q a b) r.points 0 (omega arith) in
        grind (arith, nat_tests)

    more_known : known_pair rs k ≡ true → x.number ≤ 24 → Tracks rs (suc k) (pairs_of rs k) (with_cell x (cell_place (pair_place x r.entry r.other) r.candidate r.choice) r.points)
    more_known m few =
        let p = pair_place x r.entry r.other in
        let low : p < x.number = place_known r.entry r.other m in
        let many = h.many in
        let hit = place_hit x r.entry r.other x.number low in
        let here = h.ends p low in
        record {
          many = h.many;
          ends = h.ends;
          cells = λ q a b hq h24 ha hb.
              let put = cell_put p q a b (omega arith) h24 ha hb in
              let was = h.cells q a b hq h24 ha hb in
              let same = apart rs k q p in
              grind (arith, nat_tests);
          zeros = λ q a b hq h24 ha hb.
              let put = cell_put p q a b (omega arith) h24 ha hb in
              let was = h.zeros q a b hq h24 ha hb in
              grind (arith, nat_tests);
          long_ends = h.long_ends;
          long_cells = length-set x.cells _ _ ∙ h.long_cells;
        }

    more_new : known_pair rs k ≡ false → x.number < 24 → Tracks rs (suc k) (pairs_of rs k ++ (r.entry, r.other) ∷ []) (with_cell (with_pair x r.entry r.other) (cell_place x.number r.candidate r.choice) r.points)
    more_new m few =
        let p = x.number in
        let ps = pairs_of rs k in
        let many = h.many in
        let long = h.long_ends in
        let lp = length_push ps (r.entry, r.other) in
        record {
          many = omega arith;
          ends = λ q hq.
              let put = set_at x.ends p q (r.entry, r.other) (0, 0) (omega arith) in
              let was = h.ends q in
              let push = get_or-push ps (r.entry, r.other) (0, 0) q in
              grind (arith, nat_tests);
          cells = λ q a b hq h24 ha hb.
              let put = cell_put p q a b few h24 ha hb in
              let push = get_or-push ps (r.entry, r.other) (0, 0) q in
              let was = h.cells q a b in
              let zero = h.zeros q a b in
              let none = pairless rs k r.entry a r.other b m in
              let other = unmet rs k r.entry r.other q m in
              grind (arith, nat_tests);
          zeros = λ q a b hq h24 ha hb.
              let put = cell_put p q a b few h24 ha hb in
              let was = h.zeros q a b (omega arith) h24 ha hb in
              grind (arith, nat_tests);
          long_ends = length-set x.ends _ _ ∙ h.long_ends;
          long_cells = length-set x.cells _ _ ∙ h.long_cells;
        }

    -- so the board holds one record more
    pub more : (known_pair rs k ≡ false → length (pairs_of rs k) < 24) → length (pairs_of rs k) ≤ 24 → Holds rs (suc k) (with_record x (at rs k))
    more room few =
        let p = pair_place x r.entry r.other in
        let many = h.many in
        ⊎_elim
        (λ (m : known_pair rs k ≡ true).
        let low = place_known r.entry r.other m in
        let same : with_room_for x r.entry r.other ≡ x = cond-false _ _ _ (ne_eqb p x.number (λ e. omega arith)) in
        let listed_same : pairs_of rs (suc k) ≡ pairs_of rs k = cond-true _ _ _ m in
        rw (listed_same, same) (more_known m (omega arith)))
        (λ (m : known_pair rs k ≡ false).
        let new = place_new r.entry r.other m in
        let same : with_room_for x r.entry r.other ≡ with_pair x r.entry r.other = cond-true _ _ _ (eq-eqb p x.number new) in
        let listed_same : pairs_of rs (suc k) ≡ pairs_of rs k ++ (r.entry, r.other) ∷ [] = cond-false _ _ _ m in
        let less = room m in
        rw (listed_same, same, new) (more_new m (omega arith)))
        (cases_Bool (known_pair rs k))

    pub place_low : (known_pair rs k ≡ false → length (pairs_of rs k) < 24) → length (pairs_of rs k) ≤ 24 → pair_place x r.entry r.other < 24
    place_low room few =
        let many = h.many in
        let known = place_known r.entry r.other in
        let new = place_new r.entry r.other in
        grind (arith, nat_tests)

holds_none : (rs : List PairRecord) → Holds rs 0 new_tables.pairs
holds_none rs = record {
  many = refl;
  ends = λ q h. absurd (omega arith);
  cells = λ q a b h _ _ _. absurd (omega arith);
  zeros = λ q a b _ _ _ _. zeros 1536 (cell_place q a b);
  long_ends = refl;
  long_cells = length-replicate {A = ℕ} 1536 0;
}

-- records that fit are held one after another
module _ (ceiling : ℕ) (counts : List ℕ) (rs : List PairRecord) (few : (e : ℕ) → e < length counts → get_or counts e 0 ≤ 8) (fit : RecordsFit ceiling counts rs) where
  few_candidates : (k : ℕ) → k < length rs → (at rs k).candidate < 8
  few_candidates k h =
      let o = fit.lower_first k h in
      let i = fit.entries_there k h in
      omega (arith, fit.candidate_there k h, few (at rs k).entry (omega arith))

  few_choices : (k : ℕ) → k < length rs → (at rs k).choice < 8
  few_choices k h = omega (arith, fit.choice_there k h, few (at rs k).other (fit.entries_there k h))

  few_pairs : (k : ℕ) → k ≤ length rs → length (pairs_of rs k) ≤ 24
  few_pairs k h = omega (arith, pairs_grow ceiling counts rs k (length rs) h, fit.few_pairs)

  pub held : (k : ℕ) → k ≤ length rs → Holds rs k (with_records rs k new_tables.pairs)
  held zero h = holds_none rs
  held (suc k) h =
      more rs k (with_records rs k new_tables.pairs) (held k (omega arith)) (few_candidates k h) (few_choices k h) (room_for_pair ceiling counts rs fit k h) (few_pairs k (omega arith))

  -- so each can be written
  pub writable : (k : ℕ) → k < length rs → Writable new_tables.pairs rs k
  writable k h =
      let so_far = held k (omega arith) in
      record {
        few_pairs = omega (arith, so_far.many, few_pairs k (omega arith));
        place_low = place_low rs k (with_records rs k new_tables.pairs) so_far (few_candidates k h) (few_choices k h) (room_for_pair ceiling counts rs fit k h) (few_pairs k (omega arith));
        candidate_low = few_candidates k h;
        choice_low = few_choices k h;
      }
