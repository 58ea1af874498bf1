-- A sweep keeps every cheap tuning, leaves sound tables, and changes nothing but the floor, own penalties, cells and marks.
use Rattle.std.proofs.Common.{◌≡◌, ℕ, zero, suc, ◌<◌, ◌≤◌, Bool, true, false, cond, ◌&&◌, ◌||◌, eqb, ltb, List, get_or, Some, None, Option, sym, refl, ap, ◌∙◌, arith}
use Rattle.std.proofs.lemmas.Bool.{and_parts, and_from, lt-ltb, eq-eqb, or_left, or_right}
use Rattle.scale.specs.Laws.{Lawful}
use Rattle.scale.proofs.JoinedLists.{front_swap}
use Rattle.plan.specs.declared.refusals.Refusal.{Refusal}
use Rattle.plan.specs.declared.place.Place.TheVariants.{OwnPenalty, Row}
use Rattle.plan.specs.declared.tables.Hand.{Hand}
use Rattle.plan.specs.declared.tables.Tables.{Tables}
use Rattle.plan.specs.Refusing.{unless_refused}
use Rattle.plan.specs.Closing.{close_refusal, with_closed, close_after}
use Rattle.plan.specs.Costs.{hand_part, own_part, cost}
use Rattle.plan.specs.Invariant.{Sound, hand_there}
use Rattle.plan.specs.Keeping.{Keeps}
use Rattle.plan.specs.Layout.{candidate_place, count_of, own_of, open_at, first_of, second_of, is_there}
use Rattle.plan.specs.Lifting.{adjusted}
use Rattle.plan.specs.Rows.{is_at, row_least}
use Rattle.plan.specs.Settling.{Progress, swept, unless_stable, after_sweeps}
use Rattle.plan.specs.Sweeps.{Frame, frame, in_turn, moved_to_own, row_to_own, rows_to_own, pair_to_own, pairs_to_own, own_least, moved_to_floor, entry_to_floor, entries_to_floor, entry_closed, sweep}
use Rattle.plan.specs.Tunings.{OpenTuning}
use Rattle.plan.proofs.Adjusting.{length_changed, changed_low, changed_other, changed_at, least_at_most}
use Rattle.plan.proofs.Keepings.{keeps_refl, keeps_trans, unless_kept, close_kept}
use Rattle.plan.proofs.Lifts.{Touched, owns, cells, cost_in_three, over_lifted}
use Rattle.plan.proofs.OpenTunings.{tuning_from_open}
use Rattle.plan.proofs.Transfers.{body, adjusted_sound, body_lifted, body_set}

-- so a candidate is there, and a pair is at an entry, as before
pub there_as_before : (x y : Tables) → frame y ≡ frame x → (e c : ℕ) → is_there y e c ≡ is_there x e c
there_as_before x y same e c = ap (λ (f : Frame). ltb e f.entries_number && ltb c (get_or f.counts e 0)) same

pub at_as_before : (x y : Tables) → frame y ≡ frame x → (e p : ℕ) → is_at y e p ≡ is_at x e p
at_as_before x y same e p = ap (λ (f : Frame). ltb p f.pairs_number && (eqb (get_or f.ends p (0, 0)).0 e || eqb (get_or f.ends p (0, 0)).1 e)) same

pub is_there_from : (x : Tables) (e c : ℕ) → e < x.entries.number → c < count_of x e → is_there x e c ≡ true
is_there_from x e c l h = and_from _ _ (lt-ltb e x.entries.number l) (lt-ltb c (count_of x e) h)

pub record Swept (join : ℕ → ℕ → ℕ) (x y : Tables) : Type 0 where
  pub keeps : Keeps join x y
  pub sound : Sound y
  pub same_frame : frame y ≡ frame x

not_swept : (join : ℕ → ℕ → ℕ) (x : Tables) → Sound x → Swept join x x
not_swept join x s = record { keeps = keeps_refl join x; sound = s; same_frame = refl }

pub swept_on : (join : ℕ → ℕ → ℕ) (x y z : Tables) → Swept join x y → Swept join y z → Swept join x z
swept_on join x y z f g = record { keeps = keeps_trans join x y z f.keeps g.keeps; sound = g.sound; same_frame = g.same_frame ∙ f.same_frame }

-- steps in turn keep what each step keeps
pub in_turn_swept : (join : ℕ → ℕ → ℕ) (x : Tables) (step : ℕ → Tables → Tables) (n : ℕ) → Sound x → ((k : ℕ) (y : Tables) → k < n → Sound y → frame y ≡ frame x → Swept join y (step k y)) →
    Swept join x (in_turn step n x)
in_turn_swept join x step zero s each = not_swept join x s
in_turn_swept join x step (suc n) s each =
    let y = in_turn step n x in
    let before = in_turn_swept join x step n s (λ k z l. each k z (omega arith)) in
    swept_on join x y (step n y) before (each n y (omega arith) before.sound before.same_frame)

-- a pair is at its entries
pub first_at : (x : Tables) (p : ℕ) → p < x.pairs.number → is_at x (first_of x p) p ≡ true
first_at x p l = and_from _ _ (lt-ltb p x.pairs.number l) (or_left _ _ (eq-eqb (first_of x p) (first_of x p) refl))

pub second_at : (x : Tables) (p : ℕ) → p < x.pairs.number → is_at x (second_of x p) p ≡ true
second_at x p l = and_from _ _ (lt-ltb p x.pairs.number l) (or_right _ _ (eq-eqb (second_of x p) (second_of x p) refl))

-- a closing, accepted or refused, changes a mark at most
pub closed_frame : (join : ℕ → ℕ → ℕ) (x : Tables) (e c : ℕ) → frame (close_after join x e c) ≡ frame x
closed_frame join x e c = stays (close_refusal join x e c)
  where
    stays : (o : Option Refusal) → frame (unless_refused o x (with_closed x e c)) ≡ frame x
    stays None = refl
    stays (Some why) = refl

module _ {top : ℕ} {join rest : ℕ → ℕ → ℕ} (law : Lawful top join rest) where
  -- what an amount is taken off stays sound
  pub taken_sound : (x : Tables) → Sound x → (m e p c : ℕ) → Sound (adjusted (λ v. rest v m) x e c (Row p))
  taken_sound x s m e p c = adjusted_sound (λ v. rest v m) x e c (Row p) x.hand s (λ v h. omega (arith, law.rest_lowers v m)) s.4 s.3.3

  -- a row's amount moves to the own penalty: taken off as by a lift, joined as by a set-down
  pub moved_to_own_swept : (x : Tables) → Sound x → x.limits.ceiling ≡ top → (m e p c : ℕ) → is_there x e c ≡ true → is_at x e p ≡ true → m ≤ row_least x e c p →
      Swept join x (moved_to_own join rest m e p c x)
  moved_to_own_swept x s is_top m e p c there at low =
      let mid = adjusted (λ v. rest v m) x e c (Row p) in
      let mid_sound : Sound mid = taken_sound x s m e p c in
      let same_body : (t : List ℕ) → OpenTuning x t → body join (moved_to_own join rest m e p c x) t ≡ body join x t = λ t o.
      let taken = body_lifted law x s is_top e c there (Row p) m t o at low in
      let joined_on = body_set law mid mid_sound is_top e c there OwnPenalty m t (record { for_each = o.for_each; opens = o.opens }) refl in
      sym joined_on ∙ taken in
      record {
        keeps = record {
          same_ceiling = refl;
          bound_not_raised = omega arith;
          never_reopened = λ t o. record { for_each = o.for_each; opens = o.opens };
          open_costs_stay = λ t o.
              let was : OpenTuning x t = record { for_each = o.for_each; opens = o.opens } in
              let one = cost_in_three law (moved_to_own join rest m e p c x) t in
              let two = cost_in_three law x t in
              let same = ap (λ (v : ℕ). join x.limits.floor (join (hand_part x.hand t) v)) (same_body t was) in
              one ∙ same ∙ sym two;
          closed_cost_the_bound = λ t o n. absurd (n (record { for_each = o.for_each; opens = o.opens }));
        };
        sound = adjusted_sound (λ v. join v m) mid e c OwnPenalty x.hand mid_sound (λ v h. omega (arith, law.bounded v m)) mid_sound.4 s.3.3;
        same_frame = refl;
      }

  -- for each open candidate of an entry of a pair
  pub rows_to_own_swept : (x : Tables) → Sound x → x.limits.ceiling ≡ top → (e p n : ℕ) → e < x.entries.number → is_at x e p ≡ true → n ≤ count_of x e →
      Swept join x (in_turn (row_to_own join rest e p) n x)
  rows_to_own_swept x s is_top e p n l at few = in_turn_swept join x (row_to_own join rest e p) n s (λ c y h. each c y (omega arith))
    where
      one : (c : ℕ) (y : Tables) → c < count_of x e → Sound y → frame y ≡ frame x → (b : Bool) → open_at y e c ≡ b → Swept join y (cond b (moved_to_own join rest (row_least y e c p) e p c y) y)
      one c y h sy same false is = not_swept join y sy
      one c y h sy same true is =
          let ceiling = ap (λ (f : Frame). f.ceiling) same in
          let there = there_as_before x y same e c ∙ is_there_from x e c l h in
          moved_to_own_swept y sy (ceiling ∙ is_top) (row_least y e c p) e p c there (at_as_before x y same e p ∙ at) (omega arith)

      each : (c : ℕ) (y : Tables) → c < count_of x e → Sound y → frame y ≡ frame x → Swept join y (row_to_own join rest e p c y)
      each c y h sy same = one c y h sy same (open_at y e c) refl

  -- of both entries of a pair
  pub pair_to_own_swept : (x : Tables) → Sound x → x.limits.ceiling ≡ top → (p : ℕ) → p < x.pairs.number → Swept join x (pair_to_own join rest p x)
  pair_to_own_swept x s is_top p l =
      let y = rows_to_own join rest (first_of x p) p x in
      let low = s.1.1 p l in
      let high = s.1.2 p l in
      let one = rows_to_own_swept x s is_top (first_of x p) p (count_of x (first_of x p)) (omega arith) (first_at x p l) (omega arith) in
      let number = ap (λ (f : Frame). f.entries_number) one.same_frame in
      let ceiling = ap (λ (f : Frame). f.ceiling) one.same_frame in
      let at_y = at_as_before x y one.same_frame (second_of x p) p ∙ second_at x p l in
      let two = rows_to_own_swept y one.sound (ceiling ∙ is_top) (second_of x p) p (count_of y (second_of x p)) (omega arith) at_y (omega arith) in
      swept_on join x y (rows_to_own join rest (second_of x p) p y) one two

  pub pairs_to_own_swept : (x : Tables) → Sound x → x.limits.ceiling ≡ top → (n : ℕ) → n ≤ x.pairs.number → Swept join x (in_turn (pair_to_own join rest) n x)
  pairs_to_own_swept x s is_top n few = in_turn_swept join x (pair_to_own join rest) n s (λ p y l sy same.
      let number = ap (λ (f : Frame). f.pairs_number) same in
      pair_to_own_swept y sy (ap (λ (f : Frame). f.ceiling) same ∙ is_top) p (omega arith))

  -- an amount moves from the own penalties of an entry to the floor
  module _ (x : Tables) (s : Sound x) (is_top : x.limits.ceiling ≡ top) (m e : ℕ) (entry_there : e < x.entries.number) (low : m ≤ own_least x e) where
    abbrev floored : Tables
    floored = moved_to_floor join rest m e x

    -- a tuning's own penalty of the entry is drawn on, and no other
    drawn : (t : List ℕ) → OpenTuning x t → Touched true x.entries.number e (λ v. rest v m) (own_part x t) (own_part floored t)
    drawn t o = record {
      place_there = entry_there;
      else_same = λ i h apart. changed_other (open_at x e) (candidate_place e) (λ v. rest v m) (count_of x e) x.entries.own (candidate_place i (get_or t i 0)) (λ k l _ q.
          let few = s.0.2 e in
          let small = (tuning_from_open x t o).there i h in
          let few_i = s.0.2 i in
          apart (omega arith, refl));
      here = λ _.
          let k = get_or t e 0 in
          let small = (tuning_from_open x t o).there e entry_there in
          let few = s.0.2 e in
          let is_open = (and_parts (is_there x e k) (open_at x e k) (o.opens e entry_there)).1 in
          changed_at (open_at x e) (candidate_place e) (λ v. rest v m) (count_of x e) x.entries.own k small is_open (λ j l q. omega arith) (omega (arith, s.0.0, s.0.3));
    }

    same_floored_cost : (t : List ℕ) → OpenTuning x t → cost join floored t ≡ cost join x t
    same_floored_cost t o =
        let k = get_or t e 0 in
        let is_open = (and_parts (is_there x e k) (open_at x e k) (o.opens e entry_there)).1 in
        let least = least_at_most (open_at x e) (own_of x e) (count_of x e) k ((tuning_from_open x t o).there e entry_there) is_open in
        let back : true ≡ true → join (rest (own_part x t e) m) m ≡ own_part x t e = λ _. law.rest_restores (own_part x t e) m (omega (arith, s.3.1 (candidate_place e k))) (omega arith) in
        let owned : join (owns join floored t) m ≡ owns join x t = over_lifted law true x.entries.number e m (λ v. rest v m) (own_part x t) (own_part floored t) (drawn t o) back in
        let floor = x.limits.floor in
        let hand = hand_part x.hand t in
        let own = owns join floored t in
        let cell = cells join x t in
        let one = cost_in_three law floored t in
        let two = cost_in_three law x t in
        let three = law.associative floor m (join hand (join own cell)) in
        let four = front_swap law m hand (join own cell) in
        let five = law.associative m own cell in
        let six = law.commutative m own in
        cc

    pub moved_to_floor_swept : Swept join x floored
    moved_to_floor_swept = record {
      keeps = record {
        same_ceiling = refl;
        bound_not_raised = omega arith;
        never_reopened = λ t o. record { for_each = o.for_each; opens = o.opens };
        open_costs_stay = λ t o. same_floored_cost t (record { for_each = o.for_each; opens = o.opens });
        closed_cost_the_bound = λ t o n. absurd (n (record { for_each = o.for_each; opens = o.opens }));
      };
      sound = (
        (s.0.0, s.0.1, s.0.2, length_changed (open_at x e) (candidate_place e) (λ v. rest v m) (count_of x e) x.entries.own ∙ s.0.3, s.0.4),
        s.1,
        s.2,
        (omega (arith, law.bounded x.limits.floor m), changed_low (open_at x e) (candidate_place e) (λ v. rest v m) x.limits.ceiling (λ v h. omega (arith, law.rest_lowers v m)) (count_of x e) x.entries.own s.3.1, s.3.2, s.3.3),
        hand_stays x.hand s.4,
      );
      same_frame = refl;
    }
      where
        hand_stays : (h : Option Hand) → hand_there x h ≡ true → hand_there floored h ≡ true
        hand_stays None q = q
        hand_stays (Some h) q = q

  pub entry_to_floor_swept : (x : Tables) → Sound x → x.limits.ceiling ≡ top → (e : ℕ) → e < x.entries.number → Swept join x (entry_to_floor join rest e x)
  entry_to_floor_swept x s is_top e l = moved_to_floor_swept x s is_top (own_least x e) e l (omega arith)

  pub entries_to_floor_swept : (x : Tables) → Sound x → x.limits.ceiling ≡ top → (n : ℕ) → n ≤ x.entries.number → Swept join x (in_turn (entry_to_floor join rest) n x)
  entries_to_floor_swept x s is_top n few = in_turn_swept join x (entry_to_floor join rest) n s (λ e y l sy same.
      let number = ap (λ (f : Frame). f.entries_number) same in
      entry_to_floor_swept y sy (ap (λ (f : Frame). f.ceiling) same ∙ is_top) e (omega arith))

  -- a candidate is closed where it may be
  close_swept : (x : Tables) → Sound x → x.limits.ceiling ≡ top → (e c : ℕ) → Swept join x (close_after join x e c)
  close_swept x s is_top e c =
      let kept = unless_kept join x (with_closed x e c) (close_refusal join x e c) s (close_kept law x e c s is_top) in
      record { keeps = kept.keeps; sound = kept.sound; same_frame = closed_frame join x e c }

  pub entry_closed_swept : (x : Tables) → Sound x → x.limits.ceiling ≡ top → (e n : ℕ) → Swept join x (in_turn (λ c y. close_after join y e c) n x)
  entry_closed_swept x s is_top e n = in_turn_swept join x (λ c y. close_after join y e c) n s (λ c y l sy same. close_swept y sy (ap (λ (f : Frame). f.ceiling) same ∙ is_top) e c)

  pub entries_closed_swept : (x : Tables) → Sound x → x.limits.ceiling ≡ top → (n : ℕ) → Swept join x (in_turn (entry_closed join) n x)
  entries_closed_swept x s is_top n = in_turn_swept join x (entry_closed join) n s (λ e y l sy same. entry_closed_swept y sy (ap (λ (f : Frame). f.ceiling) same ∙ is_top) e (count_of y e))

  pub sweep_swept : (x : Tables) → Sound x → x.limits.ceiling ≡ top → Swept join x (sweep join rest x)
  sweep_swept x s is_top =
      let y = pairs_to_own join rest x in
      let z = entries_to_floor join rest y in
      let one = pairs_to_own_swept x s is_top x.pairs.number (omega arith) in
      let top_y = ap (λ (f : Frame). f.ceiling) one.same_frame ∙ is_top in
      let two = entries_to_floor_swept y one.sound top_y y.entries.number (omega arith) in
      let top_z = ap (λ (f : Frame). f.ceiling) two.same_frame ∙ top_y in
      let three = entries_closed_swept z two.sound top_z z.entries.number in
      swept_on join x z (sweep join rest x) (swept_on join x y z one two) three

  -- and so do sweeps, up to any number of them
  pub after_sweeps_swept : (x : Tables) → Sound x → x.limits.ceiling ≡ top → (n : ℕ) → Swept join x (after_sweeps join rest n x).tables
  after_sweeps_swept x s is_top zero = not_swept join x s
  after_sweeps_swept x s is_top (suc n) =
      let before = after_sweeps_swept x s is_top n in
      one (after_sweeps join rest n x) before (after_sweeps join rest n x).stable
    where
      one : (p : Progress) → Swept join x p.tables → (b : Bool) → Swept join x (unless_stable b p (swept join rest)).tables
      one p before true = before
      one p before false =
          let y = p.tables in
          swept_on join x y (sweep join rest y) before (sweep_swept y before.sound (ap (λ (f : Frame). f.ceiling) before.same_frame ∙ is_top))
