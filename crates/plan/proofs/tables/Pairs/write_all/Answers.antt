use Rattle.plan.proofs.tables.Pairs.write_all.Goals as goal

pub write-requires : goal.write-requires
write-requires c =
    let ready = c.requires.writable c.loop-record.record-index c.loop-record-test.true in
    record {
      few = rw c.loop-record.invariant ready.few_pairs;
      place_low = rw (← c.loop-record.invariant) at ready.place_low;
      candidate_low = ready.candidate_low;
      choice_low = ready.choice_low;
    }
