-- What an earlier record passes.
use Rattle.std.proofs.Common.{◌≡◌, ℕ, zero, suc, ◌<◌, Bool, true, false, List, ⊎_elim, arith}
use Rattle.std.proofs.lemmas.Bool.{false≢true, cases_Bool}
use Rattle.std.proofs.lemmas.Bool.Decides.{nat_tests}
use Rattle.plan.specs.declared.records.PairRecord.{PairRecord}
use Rattle.plan.specs.Records.{at, met, names_cell, repeated_cell}

-- what an earlier record passes is met
pub met_longer : (test : PairRecord → Bool) (rs : List PairRecord) (j n : ℕ) → j < n → test (at rs j) ≡ true → met test rs n ≡ true
met_longer test rs j zero h e = absurd (omega arith)
met_longer test rs j (suc n) h e = let rec = met_longer test rs j n in grind (arith, nat_tests)

-- and what is met, an earlier record passes
pub met_by : (test : PairRecord → Bool) (rs : List PairRecord) (n : ℕ) → met test rs n ≡ true → (j : ℕ) × (j < n) × (test (at rs j) ≡ true)
met_by test rs zero m = absurd (false≢true m)
met_by test rs (suc n) m =
    ⊎_elim
    (λ (t : met test rs n ≡ true). let rec = met_by test rs n t in (rec.0, omega (arith, rec.1), rec.2))
    (λ (f : met test rs n ≡ false). (n, omega arith, grind (arith, nat_tests)))
    (cases_Bool (met test rs n))

pub repeated_by : (rs : List PairRecord) (j k : ℕ) → j < k → names_cell (at rs j) (at rs k).entry (at rs k).candidate (at rs k).other (at rs k).choice ≡ true → repeated_cell rs k ≡ true
repeated_by rs j k h e = met_longer (λ r. names_cell r (at rs k).entry (at rs k).candidate (at rs k).other (at rs k).choice) rs j k h e
