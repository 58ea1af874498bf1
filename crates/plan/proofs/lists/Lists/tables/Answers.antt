use Rattle.plan.proofs.Tracking.{writable}
use Rattle.plan.proofs.lists.Lists.tables.Goals as goal

pub write_all-requires : goal.write_all-requires
write_all-requires c =
    let fit = c.requires.fit in
    record { writable = rw c.empty-tables.ensures.hold_nothing (writable c.args.self.now.ceiling c.args.self.now.counts.now c.args.self.now.records.now fit.each_few fit.records_fit) }
