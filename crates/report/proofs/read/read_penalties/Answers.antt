use Rattle.std.proofs.Common.{◌≡◌, ◌+◌, rules, tests, arith}
use Rattle.std.specs.Iterator.Adapters.{enumerate_source, enumerate_count}
use Rattle.std.specs.Slice.Iter.{split_inclusive_rest}
use Rattle.std.proofs.lemmas.List.Sorted.{answers_always}
use Rattle.std.proofs.lemmas.Result.{err_from_is_err_and}
use Rattle.plan_text.proofs.Cuts.{cuts_next}
use Rattle.report.proofs.Lines.{line_refused, line_read, last_refused}
use Rattle.report.proofs.read.read_penalties.Goals as goal

pub returns-in_err-line : goal.returns-in_err-line
returns-in_err-line c =
    let next = cuts_next 10 _ c.in-Some.ensures.steps.0
    (answers_always _ _ _ (λ f a r g h. search (rules, tests))) c.strip_suffix.ensures.cases in
    let here = rw (← c.in-Some.ensures.steps.1) at c.loop-index.invariant in
    let said = last_refused here (rw c.in_err-line.ensures.ok_part at next.piece) next.some in
    let why = rw c.in_err-line.ensures.ok_part at c.in_err-line.ensures.value in
    let out = err_from_is_err_and c.from_residual.result c.from_residual.ensures.1 in
    record { is_what_the_lines_say = rw (out.1, out.2) cc }

pub returns-in_err-penalty : goal.returns-in_err-penalty
returns-in_err-penalty c =
    let next = cuts_next 10 _ c.in-Some.ensures.steps.0
    (answers_always _ _ _ (λ f a r g h. search (rules, tests))) c.strip_suffix.ensures.cases in
    let here = rw (← c.in-Some.ensures.steps.1) at c.loop-index.invariant in
    let piece = rw c.in_ok-line.ensures.ok_part at next.piece in
    let left = split_inclusive_rest (enumerate_source c.next.new.self) in
    let returned = c.from_residual-in_err-penalty in
    let out = err_from_is_err_and returned.result returned.ensures.1 in
    let said = c.in_err-penalty.ensures.is_the_ranged_value in
    record { is_what_the_lines_say = rw (out.1, out.2) (line_refused here _ left piece _ said) }

pub loop-index-preserved : goal.loop-index-preserved
loop-index-preserved c =
    let next = cuts_next 10 _ c.in-Some.ensures.steps.0
    (answers_always _ _ _ (λ f a r g h. search (rules, tests))) c.strip_suffix.ensures.cases in
    let here = rw (← c.in-Some.ensures.steps.1) at c.loop-index.invariant in
    let piece = rw c.in_ok-line.ensures.ok_part at next.piece in
    let left = split_inclusive_rest (enumerate_source c.next.new.self) in
    let more : enumerate_count c.next.new.self + 2 ≡ c.in-Some.index + 2 + 1 =
    omega (arith, c.in-Some.ensures.steps.1, c.in-Some.ensures.steps.2) in
    let pushed = c.push_reserved.ensures in
    line_read here _ left piece _ _ _ _ _ c.in_ok-penalty.ensures.is_the_ranged_value more
    pushed.items pushed.len pushed.capacity next.shorter
