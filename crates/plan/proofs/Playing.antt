-- No list of calls loses a cheap tuning.
use Rattle.std.proofs.Common.{◌≡◌, ℕ, List, [], ◌∷◌, ◌∙◌, arith}
use Rattle.scale.specs.Laws.{Lawful}
use Rattle.plan.specs.declared.records.PairRecord.{PairRecord}
use Rattle.plan.specs.declared.tables.Tables.{Tables}
use Rattle.plan.specs.Closing.{close_refusal, with_closed, lower_refusal, with_bound}
use Rattle.plan.specs.Settling.{after_sweeps, settle_refusal}
use Rattle.plan.specs.Costs.{cost}
use Rattle.plan.specs.Fillable.{ListedTuning, OpenAsListed, filled_cost}
use Rattle.plan.specs.Histories.{Call, closing, lowering, lifting, setting_down, settling, after_call, played, NoCheapTuningLost}
use Rattle.plan.specs.Invariant.{Sound}
use Rattle.plan.specs.Keeping.{Keeps}
use Rattle.plan.specs.Lifting.{lift_refusal, lifted, set_refusal, set_down_in}
use Rattle.plan.proofs.Transfers.{lift_kept, set_kept}
use Rattle.plan.proofs.Keepings.{Kept, keeps_refl, keeps_trans, unless_kept, close_kept, lower_kept}
use Rattle.plan.proofs.SweptTables.{after_sweeps_swept}

module _ {c : ℕ} {join rest : ℕ → ℕ → ℕ} (law : Lawful c join rest) where
  call_kept : (x : Tables) (call : Call) → Sound x → x.limits.ceiling ≡ c → Kept join x (after_call join rest x call)
  call_kept x (closing e k) s top = unless_kept join x (with_closed x e k) (close_refusal join x e k) s (close_kept law x e k s top)
  call_kept x (lowering b) s top = unless_kept join x (with_bound x b) (lower_refusal x b) s (lower_kept join x b s)
  call_kept x (lifting from e k amount) s top = unless_kept join x (lifted rest x from e k amount) (lift_refusal x from e k amount) s (lift_kept law x s top from e k amount)
  call_kept x (setting_down e k amount to) s top = unless_kept join x (set_down_in join x e k amount to) (set_refusal x e k amount to) s (set_kept law x s top e k amount to)
  call_kept x (settling n) s top =
      let y = (after_sweeps join rest n x).tables in
      let done = after_sweeps_swept law x s top n in
      unless_kept join x y (settle_refusal n) s (λ _. record { keeps = done.keeps; sound = done.sound })

  pub played_kept : (x : Tables) (calls : List Call) → Sound x → x.limits.ceiling ≡ c → Kept join x (played join rest x calls)
  played_kept x [] s top = record { keeps = keeps_refl join x; sound = s }
  played_kept x (call ∷ calls) s top =
      let y = after_call join rest x call in
      let one = call_kept x call s top in
      let more = played_kept y calls one.sound (one.keeps.same_ceiling ∙ top) in
      record { keeps = keeps_trans join x y (played join rest y calls) one.keeps more.keeps; sound = more.sound }

-- what is kept of newly filled tables is what the lists said
pub none_lost : (join : ℕ → ℕ → ℕ) (counts own : List ℕ) (rs : List PairRecord) (x y : Tables) → ((t : List ℕ) → OpenAsListed counts x t) →
    ((t : List ℕ) → ListedTuning counts t → cost join x t ≡ filled_cost join counts own rs t) → Keeps join x y → NoCheapTuningLost join counts own rs y
none_lost join counts own rs x y listed costs kept = record {
  open_cost_their_filled_cost = λ t o. let before = kept.never_reopened t o in kept.open_costs_stay t o ∙ costs t ((listed t).0 before);
  others_cost_the_bound = λ t l n. omega (arith, kept.closed_cost_the_bound t ((listed t).1 l) n, costs t l);
}
