use Rattle.std.proofs.Common.{◌≡◌, Some, sym, ap, ◌∙◌, arith}
use Rattle.std.proofs.lemmas.Result.{err_from_is_err_and}
use Rattle.plan_text.specs.Columns.{order_of}
use Rattle.plan_text.specs.Fields.{pieces}
use Rattle.plan_text.specs.Readings.{under_names}
use Rattle.plan_text.proofs.Texts.{names_first}
use Rattle.plan_text.proofs.room.Room.first_reading.Goals as goal

pub returns-in_err-read_lines : goal.returns-in_err-read_lines
returns-in_err-read_lines c =
    let returned = c.from_residual-in_err-read_lines in
    let out = err_from_is_err_and returned.result returned.ensures.1 in
    let after = c.in_ok-names.lines.now in
    let first = rw c.in_ok-names.ensures.ok_part at c.cut.ensures.first_piece_and_rest in
    let said = names_first c.args.text.now (omega arith) _ after first in
    let named : order_of c.in_ok-names.names.now ≡ Some c.in_ok-order.order =
    sym c.order_named.ensures.is_the_order_of_the_names ∙ c.in_ok-order.ensures.ok_part in
    let lines = c.in_err-read_lines.ensures.is_what_the_lines_say in
    record {
      reads_what_the_text_says =
          rw (out.1, out.2) (sym (said ∙ ap (λ o. under_names o (pieces 10 after)) named ∙ lines));
    }
