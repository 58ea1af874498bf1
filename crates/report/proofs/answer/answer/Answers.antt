use Rattle.report.proofs.answer.answer.Goals as goal

pub returns-in-Ok : goal.returns-in-Ok
returns-in-Ok c = record {
  report_or_refusal =
      rw (c.in-Ok.ensures.is_what_the_text_says, ← c.deref.ensures.value)
      c.report.ensures.is_the_report;
}
