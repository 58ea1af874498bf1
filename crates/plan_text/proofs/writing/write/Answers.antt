use Rattle.std.proofs.Common.{◌≡◌, ◌++◌, string_bytes, refl, ap, ◌∙◌}
use Rattle.plan_text.specs.Lists.{listed}
use Rattle.plan_text.specs.Readings.{reading}
use Rattle.plan_text.specs.Rows.{own_texts, pair_texts, row_text, under_column}
use Rattle.plan_text.specs.Writings.{text_of_lists}
use Rattle.plan_text.specs.declared.writing.Row.TheVariants.{Names}
use Rattle.plan_text.proofs.RoundTrips.{reads_back}
use Rattle.plan_text.proofs.RowTexts.{rows_are_text}
use Rattle.plan_text.proofs.writing.write.Goals as goal

pub returns : goal.returns
returns c =
    let order = c.args.order.now in
    let x = listed c.args.lists.now in
    let names = c.in_ok-push_row.ensures.adds_it
    ∙ ap (λ t. t ++ row_text (under_column Names) order) c.new-out.ensures.bytes in
    let own = rw (c.deref.ensures.value, c.deref-2.ensures.value) at c.in_ok-push_own.ensures.adds_them in
    let pairs = rw c.deref-3.ensures.value at c.in_ok-push_pairs.ensures.adds_them in
    let same : string_bytes c.push_pairs.new.out ≡ text_of_lists order x =
    pairs ∙ ap (λ t. t ++ pair_texts order x.pairs) (own ∙ ap (λ t. t ++ own_texts order 0 x.counts x.own) names)
    ∙ rows_are_text order x in
    record {
      is_their_text = same;
      reads_back = λ ordered sayable short. reads_back (string_bytes c.push_pairs.new.out)
          (reading (string_bytes c.push_pairs.new.out)) refl order x ordered sayable same short;
    }
