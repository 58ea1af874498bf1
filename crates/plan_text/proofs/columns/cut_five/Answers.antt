use Rattle.plan_text.proofs.Orders.{more_than_five}
use Rattle.plan_text.proofs.columns.cut_five.Goals as goal

pub returns-in-Some : goal.returns-in-Some
returns-in-Some c = record {
  are_the_five_pieces = more_than_five 32 c.args.line.now c.in_ok-first.rest.now c.in_ok-second.rest.now c.in_ok-third.rest.now
      c.in_ok-fourth.fifth.now c.in-Some.field-0.1.now
      c.in_ok-first.ensures.first_piece_and_rest c.in_ok-second.ensures.first_piece_and_rest c.in_ok-third.ensures.first_piece_and_rest
      c.in_ok-fourth.ensures.first_piece_and_rest c.in-Some.ensures.first_piece_and_rest;
}
