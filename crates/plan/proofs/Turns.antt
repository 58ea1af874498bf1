-- Steps one after another, as code makes them: each on the scale and the ceiling that it finds, which stay.
use Rattle.std.proofs.Common.{◌≡◌, ℕ, ◌+◌, ap, ◌∙◌, add-one}
use Rattle.plan.specs.declared.Plan.{Plan}
use Rattle.plan.specs.declared.tables.Tables.{Tables}
use Rattle.plan.specs.Plans.{KeepsFrame}
use Rattle.plan.specs.Sweeps.{Frame, in_turn}

pub frame_on : {S : Type 0} (x y z : Plan S) → KeepsFrame x y → KeepsFrame y z → KeepsFrame x z
frame_on x y z f g = record { same_scale = g.same_scale ∙ f.same_scale; same_frame = g.same_frame ∙ f.same_frame }

-- a step on the present scale and ceiling is one on those of the beginning
pub next_step : {S : Type 0} (step : S → ℕ → Tables → Tables) (x y z : Plan S) (before : Tables) → y.tables ≡ before → KeepsFrame x y → z.tables ≡ step y.scale y.tables.limits.ceiling y.tables →
    z.tables ≡ step x.scale x.tables.limits.ceiling before
next_step step x y z before so_far keeps done =
    done ∙ ap (λ (f : Frame). step y.scale f.ceiling y.tables) keeps.same_frame ∙ ap (λ s. step s x.tables.limits.ceiling y.tables) keeps.same_scale
    ∙ ap (step x.scale x.tables.limits.ceiling) so_far

-- one turn of a loop
pub next_turn : {S : Type 0} (step : S → ℕ → ℕ → Tables → Tables) (x y z : Plan S) (k : ℕ) → y.tables ≡ in_turn (step x.scale x.tables.limits.ceiling) k x.tables → KeepsFrame x y →
    z.tables ≡ step y.scale y.tables.limits.ceiling k y.tables → KeepsFrame y z → (z.tables ≡ in_turn (step x.scale x.tables.limits.ceiling) (k + 1) x.tables) × KeepsFrame x z
next_turn step x y z k so_far keeps done more =
    (rw add-one (next_step (λ s c. step s c k) x y z (in_turn (step x.scale x.tables.limits.ceiling) k x.tables) so_far keeps done), frame_on x y z keeps more)
