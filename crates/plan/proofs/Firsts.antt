-- The first fault among places.
use Rattle.std.proofs.Common.{◌≡◌, ℕ, zero, suc, ◌<◌, Some, None, Option, refl, arith}
use Rattle.std.proofs.lemmas.Bool.Decides.{nat_tests}
use Rattle.plan.specs.declared.refusals.Refusal.{Refusal}
use Rattle.plan.specs.Faults.{first_fault}

module _ (test : ℕ → Option Refusal) where
  -- where none is before, the fault of k is the first
  pub first_here : (n k : ℕ) (why : Refusal) → k < n → first_fault test k ≡ None → test k ≡ Some why → first_fault test n ≡ Some (why, k)
  first_here zero k why h none here = absurd (omega arith)
  first_here (suc n) k why h none here = let rec = first_here n k why in grind (arith, nat_tests)

  -- there is no first fault exactly where no place has one
  pub none_at : (n k : ℕ) → k < n → first_fault test n ≡ None → test k ≡ None
  none_at zero k h e = absurd (omega arith)
  none_at (suc n) k h e = let rec = none_at n k in grind (arith, nat_tests)

  pub none_below : (n : ℕ) → ((k : ℕ) → k < n → test k ≡ None) → first_fault test n ≡ None
  none_below zero h = refl
  none_below (suc n) h = let rec = none_below n (λ k l. h k (omega arith)) in rw (rec, h n (omega arith))
