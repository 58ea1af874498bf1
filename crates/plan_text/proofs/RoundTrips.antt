-- What is written reads back, and what is accepted was written so.
use Rattle.std.proofs.Common.{◌≡◌, ℕ, ◌≤◌, List, length, Ok, Err, Result, sym, ap, subst, ◌∙◌}
use Rattle.plan_text.specs.declared.faults.TextFault.{TextFault}
use Rattle.plan_text.specs.Lists.{Listed}
use Rattle.plan_text.specs.Readings.{longest, reading}
use Rattle.plan_text.specs.RoundTrips.{ReadsBack, IsWrittenSo}
use Rattle.plan_text.specs.Writings.{lines_of, written}
use Rattle.plan_text.proofs.Places.{lines_are, sayable_taken}
use Rattle.plan_text.proofs.Trips.{reading_written, reading_text}

pub reads_back : (text : List ℕ) (said : Result Listed TextFault) → said ≡ reading text →
    ReadsBack text said
reads_back text said is order x ordered sayable same short =
    is ∙ ap reading same
    ∙ reading_written order (lines_of x) ordered sayable.small (subst (λ t. length t ≤ longest) same short)
    ∙ sayable_taken x 2 sayable

pub written_so : (text : List ℕ) (said : Result Listed TextFault) → said ≡ reading text →
    IsWrittenSo text said
written_so text (Err fault) is = tt
written_so text (Ok x) is =
    let w = reading_text text x (sym is) in
    (w.order, w.ordered, w.text ∙ ap (written w.order) (sym (lines_are w.lines x w.take)))
