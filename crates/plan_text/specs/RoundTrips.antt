-- Reading a text and writing lists lead back to one another.
use Rattle.std.specs.Prelude.{◌≡◌, ℕ, ◌≤◌, List, length, Ok, Err, Result}
use Rattle.plan_text.specs.declared.columns.Column.{Column}
use Rattle.plan_text.specs.declared.faults.TextFault.{TextFault}
use Rattle.plan_text.specs.Lists.{Listed}
use Rattle.plan_text.specs.Readings.{longest}
use Rattle.plan_text.specs.Writings.{IsOrder, Sayable, text_of_lists}

-- where a text is written of lists that a text can say, in any order of the columns, it is read as these lists
abbrev pub ReadsBack : List ℕ → Result Listed TextFault → Type 0
ReadsBack text said =
    (order : List Column) (x : Listed) → IsOrder order → Sayable x → text ≡ text_of_lists order x → length text ≤ longest → said ≡ Ok x

-- a text that says lists is their text in some order of the columns
abbrev pub IsWrittenSo : List ℕ → Result Listed TextFault → Type 0
IsWrittenSo text (Err fault) = Unit {0}
IsWrittenSo text (Ok x) = (order : List Column) × IsOrder order × (text ≡ text_of_lists order x)
