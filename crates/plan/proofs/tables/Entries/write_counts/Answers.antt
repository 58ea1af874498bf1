use Rattle.std.proofs.Common.{length, refl, ap, arith}
use Rattle.plan.specs.Filling.{with_counts}
use Rattle.plan.proofs.Writes.{copied}
use Rattle.plan.proofs.tables.Entries.write_counts.Goals as goal

pub returns : goal.returns
returns c = record {
  writes_them =
      ap (with_counts c.args.self.now)
      (copied 0 (length c.args.counts.now) c.args.self.now.counts c.copy_from_slice.new.self c.args.counts.now c.copy_from_slice.ensures.after refl (omega arith));
}
