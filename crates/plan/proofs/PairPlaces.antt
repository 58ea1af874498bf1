-- Where a pair stands among the pairs.
use Rattle.std.proofs.Common.{◌≡◌, ℕ, zero, suc, ◌<◌, ◌≤◌, Bool, true, false, ◌&&◌, eqb, Some, None, length, take, get_or, refl, arith}
use Rattle.std.specs.List.{position, position_or_len}
use Rattle.std.proofs.Math.Seq.{take-suc}
use Rattle.std.proofs.lemmas.List.{length-take-le}
use Rattle.std.proofs.lemmas.List.Folds.{position_or_len_push}
use Rattle.std.proofs.lemmas.Bool.Decides.{nat_tests}
use Rattle.plan.specs.declared.tables.Pairs.{Pairs}
use Rattle.plan.specs.Filling.{is_pair, place_among, pair_place, with_pair, with_room_for}

module _ (x : Pairs) (e o : ℕ) where
  -- the ends of a pair are the entries e and o
  abbrev pub is_ends : ℕ × ℕ → Bool
  is_ends ends = eqb ends.0 e && eqb ends.1 o

  pub place_top : (k : ℕ) → place_among x e o k ≤ k
  place_top zero = omega arith
  place_top (suc k) = let rec = place_top k in grind (arith, nat_tests)

  -- it is the first place where the pair is
  first_place : (k : ℕ) → k ≤ length x.ends → place_among x e o k ≡ position_or_len is_ends (take k x.ends)
  first_place zero h = refl
  first_place (suc k) h =
      let rec = first_place k (omega arith) in
      let top = place_top k in
      let long = length-take-le k x.ends (omega arith) in
      let push = position_or_len_push is_ends (take k x.ends) (get_or x.ends k (0, 0)) in
      rw (take-suc x.ends k (0, 0) h) (grind (arith, nat_tests))

  module _ (long : x.number ≤ length x.ends) where
    -- what a search for the pair finds is its place
    pub found_there : (p : ℕ) → Some p ≡ position is_ends (take x.number x.ends) → (p ≡ pair_place x e o) × (x ≡ with_room_for x e o)
    found_there p found =
        let same = first_place x.number long in
        let all = length-take-le x.number x.ends long in
        (grind (arith, nat_tests), grind (arith, nat_tests))

    -- and where it finds none, the pair takes the next number
    pub found_none : None ≡ position is_ends (take x.number x.ends) → (x.number ≡ pair_place x e o) × (with_pair x e o ≡ with_room_for x e o)
    found_none none =
        let same = first_place x.number long in
        let top = place_top x.number in
        let all = length-take-le x.number x.ends long in
        (grind (arith, nat_tests), grind (arith, nat_tests))

  -- where a place is below, the pair is there
  pub place_hit : (k : ℕ) → place_among x e o k < k → is_pair x e o (place_among x e o k) ≡ true
  place_hit zero h = absurd (omega arith)
  place_hit (suc k) h =
      let rec = place_hit k in
      let top = place_top k in
      grind (arith, nat_tests)

  -- and else none is the pair
  pub place_miss : (k q : ℕ) → place_among x e o k ≡ k → q < k → is_pair x e o q ≡ false
  place_miss zero q h l = absurd (omega arith)
  place_miss (suc k) q h l =
      let rec = place_miss k q in
      let top = place_top k in
      grind (arith, nat_tests)
