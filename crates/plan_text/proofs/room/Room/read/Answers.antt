use Rattle.plan_text.specs.Readings.{as_reading}
use Rattle.plan_text.proofs.RoundTrips.{reads_back, written_so}
use Rattle.plan_text.proofs.room.Room.read.Goals as goal

pub returns : goal.returns
returns c =
    let said = c.first_reading.ensures.reads_what_the_text_says in
    record {
      reads_what_the_text_says = said;
      what_is_written_reads_back = reads_back c.args.text.now (as_reading c.first_reading.result) said;
      what_it_accepts_is_written_so = written_so c.args.text.now (as_reading c.first_reading.result) said;
    }
