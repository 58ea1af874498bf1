-- Tables with no entries are sound, and their one tuning costs 0.
use Rattle.std.proofs.Common.{◌≡◌, ℕ, zero, suc, ◌≤◌, List, [], get_or, replicate, refl, ap, ◌∙◌, arith}
use Rattle.std.proofs.lemmas.List.{length-replicate, nil_from_length}
use Rattle.scale.specs.Ceilings.{highest}
use Rattle.scale.specs.Laws.{Lawful}
use Rattle.plan.specs.Costs.{cost}
use Rattle.plan.specs.Fresh.{empty_tables}
use Rattle.plan.specs.Invariant.{Sound}
use Rattle.plan.specs.Tunings.{OpenTuning}

pub zeros : (n i : ℕ) → ◌≡◌ {A = ℕ} (get_or (replicate n 0) i 0) 0
zeros zero i = refl
zeros (suc n) zero = refl
zeros (suc n) (suc i) = zeros n i

pub empty_sound : (ceiling : ℕ) → 1 ≤ ceiling → ceiling ≤ highest → Sound (empty_tables ceiling)
empty_sound ceiling low high = (
  (omega arith, (λ e h. absurd (omega arith)), (λ e. omega (arith, zeros 16 e)), refl, refl),
  (omega arith, (λ p h. absurd (omega arith)), (λ p h. absurd (omega arith)), length-replicate {A = ℕ} 1536 0),
  (low, omega arith, high),
  (omega arith, (λ i. omega (arith, zeros 128 i)), (λ i. omega (arith, zeros 1536 i)), omega arith),
  refl,
)

pub empty_tuning : {c : ℕ} {join rest : ℕ → ℕ → ℕ} → Lawful c join rest → (ceiling : ℕ) (t : List ℕ) → OpenTuning (empty_tables ceiling) t →
    (t ≡ []) × (cost join (empty_tables ceiling) t ≡ 0)
empty_tuning {join = join} law ceiling t h =
    let none = law.neutral 0 (omega arith) in
    (nil_from_length t h.for_each, ap (λ (a : ℕ). join a 0) none ∙ none)
