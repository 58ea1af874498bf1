-- An amount that moves between places keeps the cost of every open tuning: the law of transfer, put to use.
use Rattle.std.proofs.Common.{◌≡◌, ℕ, ◌<◌, ◌≤◌, Bool, true, false, cond, ◌||◌, eqb, ltb, List, ◌∷◌, ◌++◌, map, length, get_or, sym, refl, ap, ◌∙◌, ⊎_elim, arith}
use Rattle.std.specs.List.{range_with_len}
use Rattle.std.proofs.lemmas.List.{get_or-set_same, get_or-set_other}
use Rattle.std.proofs.lemmas.Bool.{cases_Bool, both_ways, and_parts, ltb-true, eqb-true, eq-eqb, cond-true, cond-false}
use Rattle.std.proofs.lemmas.Bool.Decides.{nat_tests}
use Rattle.scale.specs.Joins.{joined_over}
use Rattle.scale.specs.Laws.{Lawful}
use Rattle.scale.proofs.JoinedLists.{joined_cons, joined_append, joined_bounded}
use Rattle.scale.proofs.JoinedRanges.{over_same, over_at}
use Rattle.plan.specs.declared.place.Place.TheVariants.{OwnPenalty, Row}
use Rattle.plan.specs.declared.tables.Tables.{Tables}
use Rattle.plan.specs.Costs.{hand_part, own_part, cell_part, cost}
use Rattle.plan.specs.Invariant.{Sound}
use Rattle.plan.specs.Layout.{candidate_place, cell_place, count_of, own_of, open_at, first_of, second_of, is_there}
use Rattle.plan.specs.Lifting.{adjusted}
use Rattle.plan.specs.Rows.{is_at, is_first, other_of, row_place}
use Rattle.plan.specs.Tunings.{OpenTuning}
use Rattle.plan.proofs.Adjusting.{changed_other, changed_at, row_place_same, row_place_within, row_place_pair}
use Rattle.plan.proofs.OpenTunings.{tuning_from_open}

-- what a tuning pays in own penalties, and in cells
abbrev pub owns : (ℕ → ℕ → ℕ) → Tables → List ℕ → ℕ
owns join x t = joined_over join x.entries.number (own_part x t)

abbrev pub cells : (ℕ → ℕ → ℕ) → Tables → List ℕ → ℕ
cells join x t = joined_over join x.pairs.number (cell_part x t)

-- h is f, but for its place k where b holds: there it is g of f
pub record Touched (b : Bool) (n k : ℕ) (g f h : ℕ → ℕ) : Type 0 where
  pub place_there : k < n
  pub else_same : (i : ℕ) → i < n → ((i ≡ k) × (b ≡ true) → ⊥) → h i ≡ f i
  pub here : b ≡ true → h k ≡ g (f k)

module _ {c : ℕ} {join rest : ℕ → ℕ → ℕ} (law : Lawful c join rest) where
  pub cost_in_three : (x : Tables) (t : List ℕ) → cost join x t ≡ join x.limits.floor (join (hand_part x.hand t) (join (owns join x t) (cells join x t)))
  cost_in_three x t =
      let os = map (own_part x t) (range_with_len 0 x.entries.number) in
      let cs = map (cell_part x t) (range_with_len 0 x.pairs.number) in
      let h = hand_part x.hand t in
      let one = joined_cons law x.limits.floor (h ∷ os ++ cs) in
      let two = joined_cons law h (os ++ cs) in
      let three = joined_append law os cs in
      cc

  -- an amount joined to a place, if it is joined at all, is joined to the whole
  over_if : (b : Bool) (n k a : ℕ) (f g : ℕ → ℕ) → k < n → ((i : ℕ) → i < n → ((i ≡ k) × (b ≡ true) → ⊥) → f i ≡ g i) → (b ≡ true → join (f k) a ≡ g k) →
      join (joined_over join n f) (cond b a 0) ≡ joined_over join n g
  over_if true n k a f g l same at = over_at law n k a f g l (λ i m d. same i m (λ z. d z.0)) (at refl)
  over_if false n k a f g l same at =
      law.neutral (joined_over join n f) (joined_bounded law (map f (range_with_len 0 n))) ∙ over_same join n f g (λ i m. same i m (λ z. both_ways false refl z.1))

  pub over_lifted : (b : Bool) (n k a : ℕ) (g f h : ℕ → ℕ) → Touched b n k g f h → (b ≡ true → join (g (f k)) a ≡ f k) → join (joined_over join n h) (cond b a 0) ≡ joined_over join n f
  over_lifted b n k a g f h touched back =
      over_if b n k a h f touched.place_there touched.else_same (λ is. ap (λ (v : ℕ). join v a) (touched.here is) ∙ back is)

  pub over_set : (b : Bool) (n k a : ℕ) (f h : ℕ → ℕ) → Touched b n k (λ v. join v a) f h → join (joined_over join n f) (cond b a 0) ≡ joined_over join n h
  over_set b n k a f h touched =
      over_if b n k a f h touched.place_there (λ i l d. sym (touched.else_same i l d)) (λ is. sym (touched.here is))

module _ (x : Tables) (sound : Sound x) (e c : ℕ) (there : is_there x e c ≡ true) where
  pub entry_there : e < x.entries.number
  entry_there = ltb-true e x.entries.number (and_parts (ltb e x.entries.number) (ltb c (count_of x e)) there).0

  candidate_there : c < count_of x e
  candidate_there = ltb-true c (count_of x e) (and_parts (ltb e x.entries.number) (ltb c (count_of x e)) there).1

  candidate_low : c < 8
  candidate_low = omega (arith, candidate_there, sound.0.2 e)

  module _ (t : List ℕ) (o : OpenTuning x t) where
    named : (i : ℕ) → i < x.entries.number → get_or t i 0 < 8
    named i h = omega (arith, (tuning_from_open x t o).there i h, sound.0.2 i)

    -- the own penalties
    pub own_touched : (g : ℕ → ℕ) → Touched (eqb (get_or t e 0) c) x.entries.number e g (own_part x t) (own_part (adjusted g x e c OwnPenalty) t)
    own_touched g = record {
      place_there = entry_there;
      else_same = λ i h apart.
          get_or-set_other x.entries.own (candidate_place e c) (candidate_place i (get_or t i 0)) (g (own_of x e c)) 0 (λ q.
          let low = named i h in
          let low_c = candidate_low in
          let is_entry : i ≡ e = omega arith in
          let is_candidate : get_or t i 0 ≡ c = omega arith in
          apart (is_entry, eq-eqb (get_or t e 0) c (ap (λ (j : ℕ). get_or t j 0) (sym is_entry) ∙ is_candidate)));
      here = λ is.
          let q = eqb-true (get_or t e 0) c is in
          let within : candidate_place e c < length x.entries.own = omega (arith, entry_there, candidate_low, sound.0.0, sound.0.3) in
          let same = get_or-set_same x.entries.own (candidate_place e c) (g (own_of x e c)) 0 within in
          rw q same;
    }

    -- the cells of a pair
    module _ (p : ℕ) (at : is_at x e p ≡ true) where
      pair_there : p < x.pairs.number
      pair_there = ltb-true p x.pairs.number (and_parts (ltb p x.pairs.number) (eqb (first_of x p) e || eqb (second_of x p) e) at).0

      pub other_there : other_of x e p < x.entries.number
      other_there =
          let low = sound.1.1 p pair_there in
          let high = sound.1.2 p pair_there in
          ⊎_elim
          (λ (is : is_first x e p ≡ true). let z = cond-true (is_first x e p) (second_of x p) (first_of x p) is in omega arith)
          (λ (isnt : is_first x e p ≡ false). let z = cond-false (is_first x e p) (second_of x p) (first_of x p) isnt in omega arith)
          (cases_Bool (is_first x e p))

      -- the tuning's cell stands in the row at the candidate that it names
      pub tuned_place : cell_place p (get_or t (first_of x p) 0) (get_or t (second_of x p) 0) ≡ row_place (is_first x e p) p (get_or t e 0) (get_or t (other_of x e p) 0)
      tuned_place =
          ⊎_elim
          (λ (is : is_first x e p ≡ true).
          let same = eqb-true (first_of x p) e is in
          rw (is, same) refl)
          (λ (isnt : is_first x e p ≡ false).
          let second : second_of x p ≡ e = second_is isnt in
          rw (isnt, second) refl)
          (cases_Bool (is_first x e p))
        where
          second_is : is_first x e p ≡ false → second_of x p ≡ e
          second_is isnt = let both = (and_parts (ltb p x.pairs.number) (eqb (first_of x p) e || eqb (second_of x p) e) at).1 in grind (arith, nat_tests)

      -- the candidates of the other entry
      other_few : count_of x (other_of x e p) ≤ 8
      other_few = sound.0.2 (other_of x e p)

      pub cell_touched : (g : ℕ → ℕ) → Touched (eqb (get_or t e 0) c) x.pairs.number p g (cell_part x t) (cell_part (adjusted g x e c (Row p)) t)
      cell_touched g = record {
        place_there = pair_there;
        else_same = λ q h apart. changed_other (open_at x (other_of x e p)) (row_place (is_first x e p) p c) g (count_of x (other_of x e p)) x.pairs.cells (cell_place q (get_or t (first_of x q) 0) (get_or t (second_of x q) 0)) (elsewhere q h apart);
        here = λ is. here_changed (eqb-true (get_or t e 0) c is);
      }
        where
          elsewhere : (q : ℕ) → q < x.pairs.number → ((q ≡ p) × (eqb (get_or t e 0) c ≡ true) → ⊥) → (k : ℕ) → k < count_of x (other_of x e p) → open_at x (other_of x e p) k ≡ true →
              row_place (is_first x e p) p c k ≡ cell_place q (get_or t (first_of x q) 0) (get_or t (second_of x q) 0) → ⊥
          elsewhere q h apart k l _ same =
              let high = sound.1.2 q h in
              let low = sound.1.1 q h in
              let small : k < 8 = omega (arith, other_few) in
              let is_pair = row_place_pair (is_first x e p) p q (get_or t (first_of x q) 0) (get_or t (second_of x q) 0) c k (named (first_of x q) (omega arith)) (named (second_of x q) high) candidate_low small (sym same) in
              let tuned : row_place (is_first x e p) p c k ≡ row_place (is_first x e p) p (get_or t e 0) (get_or t (other_of x e p) 0) = (rw is_pair at same) ∙ tuned_place in
              let is_candidate = (row_place_same (is_first x e p) p c (get_or t e 0) k (get_or t (other_of x e p) 0) candidate_low (named e entry_there) small (named (other_of x e p) other_there) tuned).0 in
              apart (is_pair, eq-eqb (get_or t e 0) c (sym is_candidate))

          here_changed : get_or t e 0 ≡ c → cell_part (adjusted g x e c (Row p)) t p ≡ g (cell_part x t p)
          here_changed q =
              let k = get_or t (other_of x e p) 0 in
              let ahead = is_first x e p in
              let both = and_parts (is_there x (other_of x e p) k) (open_at x (other_of x e p) k) (o.opens (other_of x e p) other_there) in
              let small : k < count_of x (other_of x e p) = (tuning_from_open x t o).there (other_of x e p) other_there in
              let tuned : cell_place p (get_or t (first_of x p) 0) (get_or t (second_of x p) 0) ≡ row_place ahead p c k = rw q at tuned_place in
              let once : (j : ℕ) → j < count_of x (other_of x e p) → row_place ahead p c j ≡ row_place ahead p c k → j ≡ k = λ j l same.
              (row_place_same ahead p c c j k candidate_low candidate_low (omega (arith, other_few)) (omega (arith, other_few)) same).1 in
              let within : row_place ahead p c k < length x.pairs.cells = omega (arith, row_place_within ahead p c k (omega (arith, pair_there, sound.1.0)) candidate_low (omega (arith, other_few)), sound.1.3) in
              let changes = changed_at (open_at x (other_of x e p)) (row_place ahead p c) g (count_of x (other_of x e p)) x.pairs.cells k small both.1 once within in
              rw tuned changes
