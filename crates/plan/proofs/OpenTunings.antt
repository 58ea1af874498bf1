-- The test for an open tuning is what it says.
use Rattle.std.proofs.Common.{◌≡◌, ℕ, zero, suc, ◌<◌, true, List, get_or, refl, ⊎_elim, arith}
use Rattle.std.proofs.lemmas.Bool.{cases_eq, and_from, and_parts, eqb-true, eq-eqb, ltb-true}
use Rattle.plan.specs.declared.tables.Tables.{Tables}
use Rattle.plan.specs.Layout.{is_open}
use Rattle.plan.specs.Tunings.{Tuning, OpenTuning, opens_first, is_open_tuning}

module _ (x : Tables) (t : List ℕ) where
  opens_each : (n e : ℕ) → e < n → opens_first x t n ≡ true → is_open x e (get_or t e 0) ≡ true
  opens_each zero e h f = absurd (omega arith)
  opens_each (suc n) e h f =
      let both = and_parts _ _ f in
      ⊎_elim (λ (q : e ≡ n). rw q both.1) (λ (d : e ≡ n → ⊥). opens_each n e (grind arith) both.0) (cases_eq e n)

  opens_all : (n : ℕ) → ((e : ℕ) → e < n → is_open x e (get_or t e 0) ≡ true) → opens_first x t n ≡ true
  opens_all zero h = refl
  opens_all (suc n) h = and_from _ _ (opens_all n (λ e l. h e (omega arith))) (h n (omega arith))

  pub open_tuning : is_open_tuning x t ≡ true → OpenTuning x t
  open_tuning h =
      let both = and_parts _ _ h in
      record { for_each = eqb-true _ _ both.0; opens = λ e l. opens_each x.entries.number e l both.1 }

  pub is_open_from : OpenTuning x t → is_open_tuning x t ≡ true
  is_open_from h = and_from _ _ (eq-eqb _ _ h.for_each) (opens_all x.entries.number h.opens)

  -- an open tuning is a tuning
  pub tuning_from_open : OpenTuning x t → Tuning x t
  tuning_from_open h = record { for_each = h.for_each; there = λ e l. ltb-true _ _ (and_parts _ _ (and_parts _ _ (h.opens e l)).0).1 }
