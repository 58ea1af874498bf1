-- What keeps every cheap tuning: nothing at all, one thing after another, a candidate closed, the bound lowered.
use Rattle.std.proofs.Common.{◌≡◌, ℕ, zero, suc, ◌<◌, ◌≤◌, Bool, true, false, ltb, leb, List, [], ◌∷◌, ◌++◌, map, get_or, set, Some, None, Option, sym, refl, ap, ◌∙◌, subst, ⊎_elim, arith}
use Rattle.std.specs.List.{range_with_len}
use Rattle.std.proofs.lemmas.List.{get_or-set_other, length-set}
use Rattle.std.proofs.lemmas.Bool.{cases_Bool, cases_eq, both_ways, and_parts, and_from, ltb-true, leb-true}
use Rattle.std.proofs.lemmas.Bool.Decides.{nat_tests}
use Rattle.scale.specs.Joins.{joined}
use Rattle.scale.specs.Laws.{Lawful}
use Rattle.scale.proofs.JoinedLists.{monotone_both, left_at_most, joined_bounded, joined_cons, joined_append}
use Rattle.scale.proofs.JoinedRanges.{over_at_most}
use Rattle.plan.specs.declared.tables.Hand.{Hand}
use Rattle.plan.specs.declared.tables.Tables.{Tables}
use Rattle.plan.proofs.Accepts.{passed}
use Rattle.plan.specs.declared.refusals.Refusal.{Refusal}
use Rattle.plan.specs.Refusing.{unless_refused}
use Rattle.plan.specs.Closing.{may_close, close_refusal, with_closed, lower_refusal, with_bound}
use Rattle.plan.specs.Costs.{hand_part, own_part, cell_part, cost}
use Rattle.plan.specs.Invariant.{Sound}
use Rattle.plan.specs.Keeping.{Keeps}
use Rattle.plan.specs.Layout.{candidate_place, count_of, own_of, open_at, is_there, is_open}
use Rattle.plan.specs.Tunings.{OpenTuning, is_open_tuning}
use Rattle.plan.specs.Weights.{held_for, weight}
use Rattle.plan.proofs.OpenTunings.{open_tuning, is_open_from}

-- a call keeps what it should, and leaves sound tables
pub record Kept (join : ℕ → ℕ → ℕ) (x y : Tables) : Type 0 where
  pub keeps : Keeps join x y
  pub sound : Sound y

-- what is kept of tables is kept of equal tables
pub kept_as : (join : ℕ → ℕ → ℕ) (x y z : Tables) → Kept join x y → z ≡ y → Kept join x z
kept_as join x y z kept same = subst (Kept join x) (sym same) kept

pub keeps_refl : (join : ℕ → ℕ → ℕ) (x : Tables) → Keeps join x x
keeps_refl join x = record {
  same_ceiling = refl;
  bound_not_raised = omega arith;
  never_reopened = λ t h. h;
  open_costs_stay = λ t h. refl;
  closed_cost_the_bound = λ t h n. absurd (n h);
}

pub keeps_trans : (join : ℕ → ℕ → ℕ) (x y z : Tables) → Keeps join x y → Keeps join y z → Keeps join x z
keeps_trans join x y z f g = record {
  same_ceiling = g.same_ceiling ∙ f.same_ceiling;
  bound_not_raised = omega (arith, f.bound_not_raised, g.bound_not_raised);
  never_reopened = λ t h. f.never_reopened t (g.never_reopened t h);
  open_costs_stay = λ t h. g.open_costs_stay t h ∙ f.open_costs_stay t (g.never_reopened t h);
  closed_cost_the_bound = λ t h n.
      ⊎_elim
      (λ (is : is_open_tuning y t ≡ true).
      let o = open_tuning y t is in
      omega (arith, g.closed_cost_the_bound t o n, f.open_costs_stay t o))
      (λ (isnt : is_open_tuning y t ≡ false).
      omega (arith, f.closed_cost_the_bound t h (λ o. both_ways _ isnt (is_open_from y t o)), g.bound_not_raised))
      (cases_Bool (is_open_tuning y t));
}

-- a lower bound only makes the promise weaker
pub bound_keeps : (join : ℕ → ℕ → ℕ) (x : Tables) (b : ℕ) → b ≤ x.limits.bound → Keeps join x (with_bound x b)
bound_keeps join x b h = record {
  same_ceiling = refl;
  bound_not_raised = h;
  never_reopened = λ t o. record { for_each = o.for_each; opens = o.opens };
  open_costs_stay = λ t o. refl;
  closed_cost_the_bound = λ t o n. absurd (n (record { for_each = o.for_each; opens = o.opens }));
}

-- what is marked open after a mark was taken away was marked open before
still_open : (marks : List Bool) (i k : ℕ) → get_or (set marks i false) k false ≡ true → get_or marks k false ≡ true
still_open [] i k h = h
still_open (m ∷ marks) zero zero h = absurd (both_ways false refl h)
still_open (m ∷ marks) zero (suc k) h = h
still_open (m ∷ marks) (suc i) zero h = h
still_open (m ∷ marks) (suc i) (suc k) h = still_open marks i k h

-- an amount in hand for a candidate is in the parts of each tuning that names it
held_at_most : (hand : Option Hand) (t : List ℕ) (e : ℕ) → held_for hand e (get_or t e 0) ≤ hand_part hand t
held_at_most None t e = omega arith
held_at_most (Some h) t e =
    ⊎_elim
    (λ (q : h.entry ≡ e). let same = ap (λ (i : ℕ). get_or t i 0) q in grind (arith, nat_tests))
    (λ (d : h.entry ≡ e → ⊥). grind (arith, nat_tests))
    (cases_eq h.entry e)

module _ {c : ℕ} {join rest : ℕ → ℕ → ℕ} (law : Lawful c join rest) (x : Tables) (sound : Sound x) (top : x.limits.ceiling ≡ c) where
  -- the floor joined with the weight of a candidate is at most the cost of each tuning that names it
  pub weight_at_most : (t : List ℕ) (e : ℕ) → e < x.entries.number → join x.limits.floor (weight join x e (get_or t e 0)) ≤ cost join x t
  weight_at_most t e h =
      let n = x.entries.number in
      let owns = map (own_part x t) (range_with_len 0 n) in
      let cells = map (cell_part x t) (range_with_len 0 x.pairs.number) in
      let hand = hand_part x.hand t in
      let floor = x.limits.floor in
      let own = own_of x e (get_or t e 0) in
      let held = held_for x.hand e (get_or t e 0) in
      let low : own ≤ c = omega (arith, sound.3.1 (candidate_place e (get_or t e 0)), top) in
      let of_own : own ≤ joined join owns = over_at_most law n e (own_part x t) h low in
      let of_all : joined join owns ≤ joined join (owns ++ cells) = omega (arith, joined_append law owns cells, left_at_most law (joined join owns) (joined join cells) (joined_bounded law owns)) in
      let of_hand = held_at_most x.hand t e in
      let both = monotone_both law own (joined join (owns ++ cells)) held hand (omega arith) of_hand in
      let turned = law.commutative (joined join (owns ++ cells)) hand in
      let all = monotone_both law floor floor (join own held) (join hand (joined join (owns ++ cells))) (omega arith) (omega arith) in
      let one = joined_cons law floor (hand ∷ owns ++ cells) in
      let two = ap (join floor) (joined_cons law hand (owns ++ cells)) in
      omega arith

  -- so a candidate that may be closed is in no cheap tuning
  pub close_keeps : (e k : ℕ) → is_open x e k ≡ true → may_close join x e k ≡ true → Keeps join x (with_closed x e k)
  close_keeps e k is allowed = record {
    same_ceiling = refl;
    bound_not_raised = omega arith;
    never_reopened = reopened;
    open_costs_stay = λ t o. refl;
    closed_cost_the_bound = λ t o n.
        ⊎_elim
        (λ (q : get_or t e 0 ≡ k). omega (arith, leb-true _ _ allowed, rw q at (weight_at_most t e there)))
        (λ (d : get_or t e 0 ≡ k → ⊥). absurd (n (others t o d)))
        (cases_eq (get_or t e 0) k);
  }
    where
      both_there : (ltb e x.entries.number ≡ true) × (ltb k (count_of x e) ≡ true)
      both_there = and_parts (ltb e x.entries.number) (ltb k (count_of x e)) (and_parts (is_there x e k) (open_at x e k) is).0

      there : e < x.entries.number
      there = ltb-true e x.entries.number both_there.0

      small : k < count_of x e
      small = ltb-true k (count_of x e) both_there.1

      reopened : (t : List ℕ) → OpenTuning (with_closed x e k) t → OpenTuning x t
      reopened t o = record {
        for_each = o.for_each;
        opens = λ i h. let both = and_parts _ _ (o.opens i h) in and_from _ _ both.0 (still_open x.entries.marks (candidate_place e k) (candidate_place i (get_or t i 0)) both.1);
      }

      others : (t : List ℕ) → OpenTuning x t → (get_or t e 0 ≡ k → ⊥) → OpenTuning (with_closed x e k) t
      others t o d = record {
        for_each = o.for_each;
        opens = λ i h.
            let both = and_parts (is_there x i (get_or t i 0)) (open_at x i (get_or t i 0)) (o.opens i h) in
            let low : get_or t i 0 < count_of x i = ltb-true _ _ (and_parts (ltb i x.entries.number) (ltb (get_or t i 0) (count_of x i)) both.0).1 in
            let few = sound.0.2 i in
            let few_e = sound.0.2 e in
            let l = small in
            let apart : candidate_place i (get_or t i 0) ≡ candidate_place e k → ⊥ = λ q.
            let entry : i ≡ e = omega arith in
            d (ap (λ (j : ℕ). get_or t j 0) (sym entry) ∙ (let same : get_or t i 0 ≡ k = omega arith in same)) in
            and_from _ _ both.0 (get_or-set_other x.entries.marks (candidate_place e k) (candidate_place i (get_or t i 0)) false false apart ∙ both.1);
      }

-- they leave sound tables
pub close_sound : (x : Tables) (e k : ℕ) → Sound x → Sound (with_closed x e k)
close_sound x e k s = (
  (s.0.0, s.0.1, s.0.2, s.0.3, length-set x.entries.marks (candidate_place e k) false ∙ s.0.4),
  s.1,
  s.2,
  s.3,
  s.4,
)

pub bound_sound : (x : Tables) (b : ℕ) → 1 ≤ b → b ≤ x.limits.bound → Sound x → Sound (with_bound x b)
bound_sound x b low high s = (s.0, s.1, (low, omega (arith, s.2.1), s.2.2), s.3, s.4)

-- a refused call keeps all
pub unless_kept : (join : ℕ → ℕ → ℕ) (x y : Tables) (o : Option Refusal) → Sound x → (o ≡ None → Kept join x y) → Kept join x (unless_refused o x y)
unless_kept join x y None s accepted = accepted refl
unless_kept join x y (Some why) s accepted = record { keeps = keeps_refl join x; sound = s }

pub close_kept : {c : ℕ} {join rest : ℕ → ℕ → ℕ} → Lawful c join rest → (x : Tables) (e k : ℕ) → Sound x → x.limits.ceiling ≡ c → close_refusal join x e k ≡ None →
    Kept join x (with_closed x e k)
close_kept {c} {join} law x e k s top none =
    let one = passed (is_open x e k) _ _ none in
    let two = passed (may_close join x e k) _ None one.1 in
    record { keeps = close_keeps law x s top e k one.0 two.0; sound = close_sound x e k s }

pub lower_kept : (join : ℕ → ℕ → ℕ) (x : Tables) (b : ℕ) → Sound x → lower_refusal x b ≡ None → Kept join x (with_bound x b)
lower_kept join x b s none =
    let range = and_parts (leb 1 b) (leb b x.limits.bound) (passed _ _ None none).0 in
    let low = leb-true 1 b range.0 in
    let high = leb-true b x.limits.bound range.1 in
    record { keeps = bound_keeps join x b high; sound = bound_sound x b low high s }
