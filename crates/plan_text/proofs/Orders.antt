-- What columns are alike, and more pieces than five.
use Rattle.std.proofs.Common.{◌≡◌, count_by, position, ℕ, false, List, ◌∷◌, length, refl, ap, arith, ◌==◌}
use Rattle.std.proofs.lemmas.Bool.{ne_eqb}
use denote.Enum.Bare.{sameb}
use Rattle.plan_text.specs.declared.columns.Column.{Column}
use Rattle.plan_text.specs.declared.columns.Column.TheVariants.{Entry, Candidate, Other, Choice, Points}
use Rattle.plan_text.specs.contracts.columns.Column.{the_type}
use Rattle.plan_text.specs.Columns.{alike}
use Rattle.plan_text.specs.Fields.{pieces}
use Rattle.plan_text.proofs.Cuts.{pieces_some}

-- what `==` says of two columns
pub same_is_alike : (j k : Column) → sameb the_type j k ≡ alike j k
same_is_alike Entry Entry = refl
same_is_alike Entry Candidate = refl
same_is_alike Entry Other = refl
same_is_alike Entry Choice = refl
same_is_alike Entry Points = refl
same_is_alike Candidate Entry = refl
same_is_alike Candidate Candidate = refl
same_is_alike Candidate Other = refl
same_is_alike Candidate Choice = refl
same_is_alike Candidate Points = refl
same_is_alike Other Entry = refl
same_is_alike Other Candidate = refl
same_is_alike Other Other = refl
same_is_alike Other Choice = refl
same_is_alike Other Points = refl
same_is_alike Choice Entry = refl
same_is_alike Choice Candidate = refl
same_is_alike Choice Other = refl
same_is_alike Choice Choice = refl
same_is_alike Choice Points = refl
same_is_alike Points Entry = refl
same_is_alike Points Candidate = refl
same_is_alike Points Other = refl
same_is_alike Points Choice = refl
same_is_alike Points Points = refl

-- five separators part six pieces
pub more_than_five : (sep : ℕ) (t r₁ r₂ r₃ r₄ r₅ : List ℕ) {a b c d e : List ℕ} →
    pieces sep t ≡ a ∷ pieces sep r₁ → pieces sep r₁ ≡ b ∷ pieces sep r₂ →
    pieces sep r₂ ≡ c ∷ pieces sep r₃ → pieces sep r₃ ≡ d ∷ pieces sep r₄ →
    pieces sep r₄ ≡ e ∷ pieces sep r₅ → (length (pieces sep t) == 5) ≡ false
more_than_five sep t r₁ r₂ r₃ r₄ r₅ h₁ h₂ h₃ h₄ h₅ =
    let r = pieces_some sep r₅ in
    ne_eqb _ 5 (λ five. absurd (omega (arith, five, ap length h₁, ap length h₂, ap length h₃, ap length h₄, ap length h₅, ap length r.2)))

pub count_alike : (k : Column) (order : List Column) →
    count_by (sameb the_type k) order ≡ count_by (alike k) order
count_alike k order = simp same_is_alike

pub position_alike : (k : Column) (order : List Column) →
    position (λ j. sameb the_type j k) order ≡ position (λ j. alike j k) order
position_alike k order = simp same_is_alike
