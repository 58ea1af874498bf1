use Rattle.std.proofs.Common.{ℕ, get_or, drop, ap, ◌∙◌, sym, take}
use Rattle.std.proofs.lemmas.List.{drop-drop}
use Rattle.std.proofs.lemmas.List.Sums.{sum_by_more}
use Rattle.plan.specs.Filling.{start}
use Rattle.plan.proofs.OwnRows.{row_written}
use Rattle.plan.proofs.tables.Entries.write_own.Goals as goal

pub loop-e-preserved : goal.loop-e-preserved
loop-e-preserved c =
    let counts = c.args.counts.now in
    let own = c.args.own.now in
    let e = c.loop-e.e in
    let n = get_or counts e 0 in
    let so_far = c.loop-e.invariant in
    let parts = c.split_at.ensures in
    let more = sum_by_more (λ (n : ℕ). n) counts e 0 c.loop-e-test.true in
    record {
      rows = row_written counts own c.split_at.result.0.now e c.args.self.now c.loop-e.self c.write_row.new.self so_far.rows
          (parts.front ∙ ap (take n) so_far.rest) parts.front_len c.write_row.ensures.writes_them;
      rest = parts.back ∙ ap (drop n) so_far.rest ∙ drop-drop n (start counts e) own ∙ ap (λ (s : ℕ). drop s own) (sym more);
    }
