use Rattle.std.proofs.Common.{arith}
use Rattle.std.proofs.lemmas.Result.{err_from_is_err_and}
use Rattle.report.proofs.Lines.{ceiling_refused, ceiling_read}
use Rattle.report.proofs.read.read.Goals as goal

pub returns-in_err-ceiling : goal.returns-in_err-ceiling
returns-in_err-ceiling c =
    let first = rw c.in_ok-line.ensures.ok_part at c.cut.ensures.first_piece_and_rest in
    let returned = c.from_residual-in_err-ceiling in
    let out = err_from_is_err_and returned.result returned.ensures.1 in
    let text = c.args.text.now in
    let said = c.in_err-ceiling.ensures.is_the_ranged_value in
    let refused = ceiling_refused text _ c.in_ok-line.lines.now (omega arith) first _ said in
    record { is_what_the_text_says = rw (out.1, out.2) refused }

pub returns : goal.returns
returns c =
    let first = rw c.in_ok-line.ensures.ok_part at c.cut.ensures.first_piece_and_rest in
    let said = c.in_ok-ceiling.ensures.is_the_ranged_value in
    record {
      is_what_the_text_says =
          rw (ceiling_read c.args.text.now _ c.in_ok-line.lines.now (omega arith) first _ said)
          c.read_penalties.ensures.is_what_the_lines_say;
    }
