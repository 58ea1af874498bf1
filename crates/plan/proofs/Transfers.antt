-- A lift and a set-down keep what every open tuning costs, and leave sound tables.
use Rattle.std.proofs.Common.{◌≡◌, ℕ, zero, suc, ◌≤◌, Bool, true, false, cond, ◌&&◌, eqb, leb, List, get_or, is_some, Some, None, Option, unwrap_or, refl, ap, ◌∙◌, arith}
use Rattle.std.proofs.lemmas.List.{length-set}
use Rattle.std.proofs.lemmas.Bool.{both_ways, and_parts, and_from, leb-true, eqb-true, eq-eqb}
use Rattle.scale.specs.Laws.{Lawful}
use Rattle.scale.proofs.JoinedLists.{zero_left}
use Rattle.plan.specs.declared.place.Place.{Place}
use Rattle.plan.specs.declared.place.Place.TheVariants.{OwnPenalty, Row}
use Rattle.plan.specs.declared.tables.Hand.{Hand}
use Rattle.plan.specs.declared.tables.Tables.{Tables}
use Rattle.plan.specs.Costs.{hand_part, own_part, cell_part, cost}
use Rattle.plan.specs.Invariant.{Sound, hand_there, amount_of}
use Rattle.plan.specs.Keeping.{Keeps}
use Rattle.plan.specs.Layout.{candidate_place, count_of, own_of, open_at, is_there, is_open}
use Rattle.plan.specs.Lifting.{with_hand, adjusted, is_place, largest_amount, lift_refusal, lifted, is_in_hand, set_refusal, set_down_in}
use Rattle.plan.specs.Rows.{lesser, least_where, is_first, other_of, row_place}
use Rattle.plan.specs.Tunings.{OpenTuning}
use Rattle.plan.proofs.Accepts.{passed, not_failed}
use Rattle.plan.proofs.Adjusting.{length_changed, changed_low, least_at_most}
use Rattle.plan.proofs.Keepings.{Kept}
use Rattle.plan.proofs.Lifts.{owns, cells, cost_in_three, over_lifted, over_set, own_touched, cell_touched, other_there, tuned_place}
use Rattle.plan.proofs.OpenTunings.{tuning_from_open}
use Rattle.plan.proofs.Writes.{set_low}

-- the amount, where the tuning names the candidate c of the entry e
abbrev pub share : List ℕ → ℕ → ℕ → ℕ → ℕ
share t e c a = cond (eqb (get_or t e 0) c) a 0

abbrev pub body : (ℕ → ℕ → ℕ) → Tables → List ℕ → ℕ
body join x t = join (owns join x t) (cells join x t)

-- an adjustment closes nothing and opens nothing
adjusted_open : (g : ℕ → ℕ) (x : Tables) (e c : ℕ) (place : Place) (hand : Option Hand) (t : List ℕ) → OpenTuning (with_hand (adjusted g x e c place) hand) t → OpenTuning x t
adjusted_open g x e c OwnPenalty hand t o = record { for_each = o.for_each; opens = o.opens }
adjusted_open g x e c (Row p) hand t o = record { for_each = o.for_each; opens = o.opens }

open_adjusted : (g : ℕ → ℕ) (x : Tables) (e c : ℕ) (place : Place) (hand : Option Hand) (t : List ℕ) → OpenTuning x t → OpenTuning (with_hand (adjusted g x e c place) hand) t
open_adjusted g x e c OwnPenalty hand t o = record { for_each = o.for_each; opens = o.opens }
open_adjusted g x e c (Row p) hand t o = record { for_each = o.for_each; opens = o.opens }

-- so it keeps every cheap tuning if it keeps costs
moved_keeps : (join : ℕ → ℕ → ℕ) (g : ℕ → ℕ) (x : Tables) (e c : ℕ) (place : Place) (hand : Option Hand) →
    ((t : List ℕ) → OpenTuning x t → cost join (with_hand (adjusted g x e c place) hand) t ≡ cost join x t) → Keeps join x (with_hand (adjusted g x e c place) hand)
moved_keeps join g x e c place hand same = record {
  same_ceiling = (limits place).0;
  bound_not_raised = omega (arith, (limits place).1);
  never_reopened = adjusted_open g x e c place hand;
  open_costs_stay = λ t o. same t (adjusted_open g x e c place hand t o);
  closed_cost_the_bound = λ t o n. absurd (n (open_adjusted g x e c place hand t o));
}
  where
    limits : (q : Place) → ((adjusted g x e c q).limits.ceiling ≡ x.limits.ceiling) × ((adjusted g x e c q).limits.bound ≡ x.limits.bound)
    limits OwnPenalty = (refl, refl)
    limits (Row p) = (refl, refl)

-- the least of low numbers is low
least_low : (c : ℕ) (test : ℕ → Bool) (f : ℕ → ℕ) (n : ℕ) → ((k : ℕ) → f k ≤ c) → unwrap_or (least_where test f n) 0 ≤ c
least_low c test f n low = out (least_where test f n) (all n)
  where
    Low : Option ℕ → Type 0
    Low None = Unit {0}
    Low (Some v) = v ≤ c

    one : (b : Bool) (v : ℕ) (o : Option ℕ) → v ≤ c → Low o → Low (lesser b v o)
    one false v o h k = k
    one true v None h k = h
    one true v (Some w) h k = omega arith

    all : (m : ℕ) → Low (least_where test f m)
    all zero = tt
    all (suc m) = one (test m) (f m) (least_where test f m) (low m) (all m)

    out : (o : Option ℕ) → Low o → unwrap_or o 0 ≤ c
    out None h = omega arith
    out (Some v) h = h

amount_low : (x : Tables) → Sound x → (e c : ℕ) (place : Place) → largest_amount x e c place ≤ x.limits.ceiling
amount_low x s e c OwnPenalty = s.3.1 (candidate_place e c)
amount_low x s e c (Row p) =
    least_low x.limits.ceiling (open_at x (other_of x e p)) (λ k. get_or x.pairs.cells (row_place (is_first x e p) p c k) 0) (count_of x (other_of x e p)) (λ k. s.3.2 (row_place (is_first x e p) p c k))

-- what is adjusted by numbers that keep to the ceiling stays sound, with a hand for a candidate that is there
pub adjusted_sound : (g : ℕ → ℕ) (x : Tables) (e c : ℕ) (place : Place) (hand : Option Hand) → Sound x → ((v : ℕ) → v ≤ x.limits.ceiling → g v ≤ x.limits.ceiling) → hand_there x hand ≡ true →
    amount_of hand ≤ x.limits.ceiling → Sound (with_hand (adjusted g x e c place) hand)
adjusted_sound g x e c OwnPenalty hand s low there amount = (
  (s.0.0, s.0.1, s.0.2, length-set x.entries.own (candidate_place e c) (g (own_of x e c)) ∙ s.0.3, s.0.4),
  s.1,
  s.2,
  (s.3.0, set_low x.limits.ceiling x.entries.own (candidate_place e c) (g (own_of x e c)) (low (own_of x e c) (s.3.1 (candidate_place e c))) s.3.1, s.3.2, amount),
  there_own hand there,
)
  where
    there_own : (h : Option Hand) → hand_there x h ≡ true → hand_there (with_hand (adjusted g x e c OwnPenalty) hand) h ≡ true
    there_own None q = q
    there_own (Some h) q = q
adjusted_sound g x e c (Row p) hand s low there amount = (
  s.0,
  (s.1.0, s.1.1, s.1.2, length_changed (open_at x (other_of x e p)) (row_place (is_first x e p) p c) g (count_of x (other_of x e p)) x.pairs.cells ∙ s.1.3),
  s.2,
  (s.3.0, s.3.1, changed_low (open_at x (other_of x e p)) (row_place (is_first x e p) p c) g x.limits.ceiling low (count_of x (other_of x e p)) x.pairs.cells s.3.2, amount),
  there_row hand there,
)
  where
    there_row : (h : Option Hand) → hand_there x h ≡ true → hand_there (with_hand (adjusted g x e c (Row p)) hand) h ≡ true
    there_row None q = q
    there_row (Some h) q = q

module _ {top : ℕ} {join rest : ℕ → ℕ → ℕ} (law : Lawful top join rest) (x : Tables) (sound : Sound x) (is_top : x.limits.ceiling ≡ top) (e c : ℕ) (there : is_there x e c ≡ true) where
  -- what is joined to one of two is joined to both together
  inner : (a b s : ℕ) → join (join a b) s ≡ join (join a s) b
  inner a b s =
      let one = law.associative a b s in
      let two = law.commutative b s in
      let three = law.associative a s b in
      cc

  -- a lift takes its share from what the tuning pays elsewhere
  pub body_lifted : (place : Place) (a : ℕ) (t : List ℕ) → OpenTuning x t → is_place x e place ≡ true → a ≤ largest_amount x e c place →
      join (body join (adjusted (λ v. rest v a) x e c place) t) (share t e c a) ≡ body join x t
  body_lifted OwnPenalty a t o at low =
      let y = adjusted (λ v. rest v a) x e c OwnPenalty in
      let back : eqb (get_or t e 0) c ≡ true → join (rest (own_part x t e) a) a ≡ own_part x t e = λ is.
      let q = eqb-true (get_or t e 0) c is in
      let same : own_part x t e ≡ own_of x e c = ap (own_of x e) q in
      law.rest_restores (own_part x t e) a (omega (arith, sound.3.1 (candidate_place e (get_or t e 0)), is_top)) (omega arith) in
      let owned = over_lifted law (eqb (get_or t e 0) c) x.entries.number e a (λ v. rest v a) (own_part x t) (own_part y t) (own_touched x sound e c there t o (λ v. rest v a)) back in
      inner (owns join y t) (cells join x t) (share t e c a) ∙ ap (λ (v : ℕ). join v (cells join x t)) owned
  body_lifted (Row p) a t o at low =
      let y = adjusted (λ v. rest v a) x e c (Row p) in
      let k = get_or t (other_of x e p) 0 in
      let other = other_there x sound e c there t o p at in
      let is_open = (and_parts (is_there x (other_of x e p) k) (open_at x (other_of x e p) k) (o.opens (other_of x e p) other)).1 in
      let number = λ (j : ℕ). get_or x.pairs.cells (row_place (is_first x e p) p c j) 0 in
      let least = least_at_most (open_at x (other_of x e p)) number (count_of x (other_of x e p)) k ((tuning_from_open x t o).there (other_of x e p) other) is_open in
      let back : eqb (get_or t e 0) c ≡ true → join (rest (cell_part x t p) a) a ≡ cell_part x t p = λ is.
      let q = eqb-true (get_or t e 0) c is in
      let tuned = ap (λ (i : ℕ). get_or x.pairs.cells i 0) (rw q at (tuned_place x sound e c there t o p at)) in
      law.rest_restores (cell_part x t p) a (omega (arith, sound.3.2 (row_place (is_first x e p) p c k), is_top)) (omega arith) in
      let celled = over_lifted law (eqb (get_or t e 0) c) x.pairs.number p a (λ v. rest v a) (cell_part x t) (cell_part y t) (cell_touched x sound e c there t o p at (λ v. rest v a)) back in
      law.associative (owns join x t) (cells join y t) (share t e c a) ∙ ap (join (owns join x t)) celled

  -- a set-down joins its share to it
  pub body_set : (place : Place) (a : ℕ) (t : List ℕ) → OpenTuning x t → is_place x e place ≡ true → join (body join x t) (share t e c a) ≡ body join (adjusted (λ v. join v a) x e c place) t
  body_set OwnPenalty a t o at =
      let y = adjusted (λ v. join v a) x e c OwnPenalty in
      let owned = over_set law (eqb (get_or t e 0) c) x.entries.number e a (own_part x t) (own_part y t) (own_touched x sound e c there t o (λ v. join v a)) in
      inner (owns join x t) (cells join x t) (share t e c a) ∙ ap (λ (v : ℕ). join v (cells join x t)) owned
  body_set (Row p) a t o at =
      let y = adjusted (λ v. join v a) x e c (Row p) in
      let celled = over_set law (eqb (get_or t e 0) c) x.pairs.number p a (cell_part x t) (cell_part y t) (cell_touched x sound e c there t o p at (λ v. join v a)) in
      law.associative (owns join x t) (cells join x t) (share t e c a) ∙ ap (join (owns join x t)) celled

-- what is known of a hand that holds an amount for a candidate
held : (x : Tables) (e c a : ℕ) (hand : Option Hand) → is_in_hand hand e c a ≡ true → hand_there x hand ≡ true → (is_there x e c ≡ true) × ((t : List ℕ) → hand_part hand t ≡ share t e c a)
held x e c a None is there = absurd (both_ways false refl is)
held x e c a (Some h) is there =
    let one = and_parts (eqb h.entry e) (eqb h.candidate c && eqb h.amount a) is in
    let two = and_parts (eqb h.candidate c) (eqb h.amount a) one.1 in
    let is_entry = eqb-true h.entry e one.0 in
    let is_candidate = eqb-true h.candidate c two.0 in
    let is_amount = eqb-true h.amount a two.1 in
    (rw (is_entry, is_candidate) at there, λ t. ap (λ (i : ℕ). cond (eqb (get_or t i 0) h.candidate) h.amount 0) is_entry ∙ ap (λ (i : ℕ). cond (eqb (get_or t e 0) i) h.amount 0) is_candidate ∙ ap (λ (i : ℕ). cond (eqb (get_or t e 0) c) i 0) is_amount)

-- a hand holds what it was given
pub itself : (e c a : ℕ) → is_in_hand (Some (record { entry = e; candidate = c; amount = a })) e c a ≡ true
itself e c a = and_from _ _ (eq-eqb e e refl) (and_from _ _ (eq-eqb c c refl) (eq-eqb a a refl))

no_hand : (hand : Option Hand) (t : List ℕ) → is_some hand ≡ false → hand_part hand t ≡ 0
no_hand None t h = refl
no_hand (Some v) t h = absurd (both_ways true h refl)

floor_stays : (g : ℕ → ℕ) (x : Tables) (e c : ℕ) (place : Place) → (adjusted g x e c place).limits.floor ≡ x.limits.floor
floor_stays g x e c OwnPenalty = refl
floor_stays g x e c (Row p) = refl

-- another hand changes nothing else that a tuning pays
body_by_hand : (join : ℕ → ℕ → ℕ) (g : ℕ → ℕ) (x : Tables) (e c : ℕ) (place : Place) (hand : Option Hand) (t : List ℕ) →
    body join (with_hand (adjusted g x e c place) hand) t ≡ body join (adjusted g x e c place) t
body_by_hand join g x e c OwnPenalty hand t = refl
body_by_hand join g x e c (Row p) hand t = refl

module _ {top : ℕ} {join rest : ℕ → ℕ → ℕ} (law : Lawful top join rest) (x : Tables) (s : Sound x) (is_top : x.limits.ceiling ≡ top) where
  -- a hand and a body that join to the same cost the same
  same_cost : (g : ℕ → ℕ) (e c : ℕ) (place : Place) (hand : Option Hand) (t : List ℕ) →
      join (hand_part hand t) (body join (adjusted g x e c place) t) ≡ join (hand_part x.hand t) (body join x t) → cost join (with_hand (adjusted g x e c place) hand) t ≡ cost join x t
  same_cost g e c place hand t same =
      let y = with_hand (adjusted g x e c place) hand in
      let one = cost_in_three law y t in
      let two = cost_in_three law x t in
      let floor = floor_stays g x e c place in
      let moved = body_by_hand join g x e c place hand t in
      cc

  body_alone : (t : List ℕ) → join 0 (body join x t) ≡ body join x t
  body_alone t = zero_left law (body join x t) (law.bounded (owns join x t) (cells join x t))

  pub lift_kept : (from : Place) (e c a : ℕ) → lift_refusal x from e c a ≡ None → Kept join x (lifted rest x from e c a)
  lift_kept from e c a none =
      let one = not_failed (is_some x.hand) _ _ none in
      let two = passed (is_open x e c && is_place x e from) _ _ one.1 in
      let three = passed (leb 1 a && leb a (largest_amount x e c from)) _ None two.1 in
      let both = and_parts (is_open x e c) (is_place x e from) two.0 in
      let there = (and_parts (is_there x e c) (open_at x e c) both.0).0 in
      let low = leb-true a (largest_amount x e c from) (and_parts (leb 1 a) (leb a (largest_amount x e c from)) three.0).1 in
      let hand : Option Hand = Some (record { entry = e; candidate = c; amount = a }) in
      record {
        keeps = moved_keeps join (λ v. rest v a) x e c from hand (λ t o.
            let given = body_lifted law x s is_top e c there from a t o both.1 low in
            let turned = law.commutative (share t e c a) (body join (adjusted (λ v. rest v a) x e c from) t) in
            let empty = no_hand x.hand t one.0 in
            let alone = body_alone t in
            same_cost (λ v. rest v a) e c from hand t cc);
        sound = adjusted_sound (λ v. rest v a) x e c from hand s (λ v h. omega (arith, law.rest_lowers v a)) there (omega (arith, amount_low x s e c from));
      }

  pub set_kept : (e c a : ℕ) (to : Place) → set_refusal x e c a to ≡ None → Kept join x (set_down_in join x e c a to)
  set_kept e c a to none =
      let one = passed (is_in_hand x.hand e c a) _ _ none in
      let two = passed (is_place x e to) _ None one.1 in
      let known = held x e c a x.hand one.0 s.4 in
      record {
        keeps = moved_keeps join (λ v. join v a) x e c to None (λ t o.
            let given = body_set law x s is_top e c known.0 to a t o two.0 in
            let turned = law.commutative (body join x t) (share t e c a) in
            let in_hand = known.1 t in
            let y = adjusted (λ v. join v a) x e c to in
            let alone = zero_left law (body join y t) (law.bounded (owns join y t) (cells join y t)) in
            same_cost (λ v. join v a) e c to None t cc);
        sound = adjusted_sound (λ v. join v a) x e c to None s (λ v h. omega (arith, law.bounded v a, is_top)) refl (omega arith);
      }
