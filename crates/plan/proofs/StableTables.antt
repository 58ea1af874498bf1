-- How far settling came, and that where the last sweep changed nothing another changes nothing.
use Rattle.std.proofs.Common.{◌≡◌, ℕ, zero, suc, ◌+◌, ◌≤◌, Bool, true, false, sym, refl, ap, ◌∙◌, subst, ⊎_elim, add-one, arith}
use Rattle.std.specs.Cmp.{booleans_Decides}
use Rattle.std.proofs.lemmas.Bool.{both_ways, cases_eq, and_parts, eqb-true}
use Rattle.std.proofs.lemmas.Bool.Decides.{Decides-eqb}
use Rattle.std.proofs.lemmas.Slice.Eq.{slice_eq-Decides}
use Rattle.scale.specs.Laws.{Lawful}
use Rattle.plan.specs.declared.tables.Settled.{Settled}
use Rattle.plan.specs.declared.tables.Tables.{Tables}
use Rattle.plan.specs.Invariant.{Sound}
use Rattle.plan.specs.Keeping.{Keeps}
use Rattle.plan.specs.Settling.{unchanged, Progress, swept, unless_stable, one_more, after_sweeps, as_settled}
use Rattle.plan.specs.Sweeps.{Frame, frame, sweep}
use Rattle.plan.proofs.SweptTables.{sweep_swept, after_sweeps_swept}

-- tables of one frame in which no number and no mark differs are the same
pub same_tables : (x y : Tables) → frame y ≡ frame x → unchanged x y ≡ true → y ≡ x
same_tables x y same h =
    let one = and_parts _ _ h in
    let two = and_parts _ _ one.1 in
    let three = and_parts _ _ two.1 in
    let floor = eqb-true _ _ one.0 in
    let own = (slice_eq-Decides Decides-eqb _ _ _ refl).0 two.0 in
    let marks = (slice_eq-Decides booleans_Decides _ _ _ refl).0 three.0 in
    let cells = (slice_eq-Decides Decides-eqb _ _ _ refl).0 three.1 in
    λ i. record {
      entries = record { number = (same i).entries_number; counts = (same i).counts; own = sym own i; marks = sym marks i };
      pairs = record { number = (same i).pairs_number; ends = (same i).ends; cells = sym cells i };
      limits = record { floor = sym floor i; ceiling = (same i).ceiling; bound = (same i).bound };
      hand = (same i).hand;
    }

module _ {top : ℕ} {join rest : ℕ → ℕ → ℕ} (law : Lawful top join rest) where
  pub stable_stays : (x : Tables) → Sound x → x.limits.ceiling ≡ top → (n : ℕ) → (after_sweeps join rest n x).stable ≡ true →
      sweep join rest (after_sweeps join rest n x).tables ≡ (after_sweeps join rest n x).tables
  stable_stays x s is_top zero h = absurd (both_ways false refl h)
  stable_stays x s is_top (suc n) h = one (after_sweeps join rest n x) (after_sweeps_swept law x s is_top n).sound (ap (λ (f : Frame). f.ceiling) (after_sweeps_swept law x s is_top n).same_frame ∙ is_top) (after_sweeps join rest n x).stable refl (stable_stays x s is_top n) h
    where
      one : (p : Progress) → Sound p.tables → p.tables.limits.ceiling ≡ top → (b : Bool) → p.stable ≡ b → (p.stable ≡ true → sweep join rest p.tables ≡ p.tables) →
          (unless_stable b p (swept join rest)).stable ≡ true → sweep join rest (unless_stable b p (swept join rest)).tables ≡ (unless_stable b p (swept join rest)).tables
      one p sp top_p true is before h = before is
      one p sp top_p false is before h =
          let y = p.tables in
          ap (sweep join rest) (same_tables y (sweep join rest y) (sweep_swept law y sp top_p).same_frame h)

module _ (join rest : ℕ → ℕ → ℕ) (x : Tables) where
  -- one sweep more, where the last was not the end
  pub sweep_more : (n : ℕ) (y z : Tables) (same : Bool) → after_sweeps join rest n x ≡ record { made = n; stable = false; tables = y } → z ≡ sweep join rest y → same ≡ unchanged y z →
      after_sweeps join rest (n + 1) x ≡ record { made = n + 1; stable = same; tables = z }
  sweep_more n y z same so_far is told =
      let next : after_sweeps join rest (n + 1) x ≡ one_more join rest (after_sweeps join rest n x) = rw add-one refl in
      next ∙ ap (one_more join rest) so_far ∙ ap (λ (t : Tables). record { made = n + 1; stable = unchanged y t; tables = t }) (sym is) ∙ ap (λ (b : Bool). record { made = n + 1; stable = b; tables = z }) (sym told)

  -- after a sweep that changed nothing none is made
  pub ends_stable : (m n : ℕ) (p : Progress) → m ≤ n → after_sweeps join rest m x ≡ p → p.stable ≡ true → after_sweeps join rest n x ≡ p
  ends_stable m zero p h is end = let z : m ≡ 0 = omega arith in rw z at is
  ends_stable m (suc n) p h is end =
      ⊎_elim
      (λ (q : m ≡ suc n). rw q at is)
      (λ (d : m ≡ suc n → ⊥). ap (one_more join rest) (ends_stable m n p (grind arith) is end) ∙ ap (λ (b : Bool). unless_stable b p (swept join rest)) end)
      (cases_eq m (suc n))

-- what settling by up to n sweeps answers and leaves
pub record Settles (join rest : ℕ → ℕ → ℕ) (n : ℕ) (x y : Tables) (answer : Settled) : Type 0 where
  pub answers : answer ≡ as_settled (after_sweeps join rest n x)
  pub leaves : y ≡ (after_sweeps join rest n x).tables
  pub same_hand : y.hand ≡ x.hand
  pub keeps : Keeps join x y
  pub stable_stays : answer.stable ≡ true → sweep join rest y ≡ y

pub settles : {top : ℕ} {join rest : ℕ → ℕ → ℕ} → Lawful top join rest → (x : Tables) → Sound x → x.limits.ceiling ≡ top → (n : ℕ) (y : Tables) (answer : Settled) →
    after_sweeps join rest n x ≡ record { made = answer.sweeps; stable = answer.stable; tables = y } → Settles join rest n x y answer
settles {join = join} {rest = rest} law x s is_top n y answer done =
    let all = after_sweeps_swept law x s is_top n in
    let left : (after_sweeps join rest n x).tables ≡ y = ap (λ (p : Progress). p.tables) done in
    record {
      answers = sym (ap as_settled done);
      leaves = sym left;
      same_hand = sym (ap (λ (t : Tables). t.hand) left) ∙ ap (λ (f : Frame). f.hand) all.same_frame;
      keeps = subst (Keeps join x) left all.keeps;
      stable_stays = λ stable. subst (λ (t : Tables). sweep join rest t ≡ t) left (stable_stays law x s is_top n (ap (λ (p : Progress). p.stable) done ∙ stable));
    }
