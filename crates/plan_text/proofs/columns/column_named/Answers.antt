use Rattle.std.proofs.Common.{◌≡◌, ◌∙◌, refl, rules, tests, bytes_eq, Option, Some, None, Bor}
use Rattle.std.specs.Option.{option_map, option_copied}
use Rattle.std.proofs.lemmas.Iterator.{YieldsList-from_slice}
use Rattle.std.proofs.lemmas.Iterator.Search.{find_from_yields_List}
use Rattle.plan_text.specs.Columns.{all_columns, name}
use Rattle.plan_text.proofs.columns.column_named.Goals as goal

copied_is_mapped : {A : Type 0} (o : Option (Bor A)) → option_copied o ≡ option_map (λ x. x.now) o
copied_is_mapped None = refl
copied_is_mapped (Some x) = refl

pub returns : goal.returns
returns c =
    let found = find_from_yields_List (λ k. bytes_eq (name k) c.args.field.now) _ _ c.find.result c.find.ensures.ran
    (YieldsList-from_slice all_columns cc) (λ x b q k. search (rules, tests)) in
    record { is_the_column = c.copied.ensures ∙ copied_is_mapped c.find.result ∙ found }
