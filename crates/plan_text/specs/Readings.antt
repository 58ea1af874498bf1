-- What a text says: its lists, or the first fault.
use Rattle.std.specs.Prelude.{◌≡◌, ℕ, ◌+◌, if◌then◌else◌, List, [], ◌∷◌, length, Some, None, Ok, Err, Option, Result, ◌==◌, nat_lt}
use Rattle.plan_text.specs.declared.columns.Column.{Column}
use Rattle.plan_text.specs.declared.faults.TextFault.{TextFault}
use Rattle.plan_text.specs.declared.faults.TextFault.TheVariants.{TooLong, Names, Malformed, OutOfOrder}
use Rattle.plan_text.specs.declared.lines.Line.{Line}
use Rattle.plan_text.specs.declared.lists.PlanLists.{PlanLists}
use Rattle.plan_text.specs.Columns.{order_of}
use Rattle.plan_text.specs.Fields.{pieces}
use Rattle.plan_text.specs.Lines.{line_of}
use Rattle.plan_text.specs.Lists.{Listed, nothing, listed, may_come, with_line}

-- the longest text that is read, in bytes
abbrev pub longest : ℕ
longest = 30720

-- the lists with line n, if it is a line and may come
abbrev pub line_read : ℕ → Listed → Option Line → Result Listed TextFault
line_read n x None = Err (Malformed n)
line_read n x (Some line) = if may_come x line then Ok (with_line x line) else Err (OutOfOrder n)

abbrev pub then_read : Result Listed TextFault → (Listed → Result Listed TextFault) → Result Listed TextFault
then_read (Err fault) next = Err fault
then_read (Ok x) next = next x

-- the lines from line n on, behind those that made the lists; every line ends in a line feed, so the last piece is empty
abbrev pub lines_read : List Column → ℕ → Listed → List (List ℕ) → Result Listed TextFault
lines_read order n x [] = Err (Malformed n)
lines_read order n x (last ∷ []) = if length last == 0 then Ok x else Err (Malformed n)
lines_read order n x (line ∷ next ∷ lines) =
    then_read (line_read n x (line_of order line)) (λ more. lines_read order (n + 1) more (next ∷ lines))

abbrev pub under_names : Option (List Column) → List (List ℕ) → Result Listed TextFault
under_names None lines = Err Names
under_names (Some order) lines = lines_read order 2 nothing lines

-- the first line gives the order of the columns
abbrev pub text_read : List (List ℕ) → Result Listed TextFault
text_read [] = Err Names
text_read (last ∷ []) = Err Names
text_read (names ∷ next ∷ lines) = under_names (order_of names) (next ∷ lines)

-- the lists that a text says, or why it says none
abbrev pub reading : List ℕ → Result Listed TextFault
reading text = if nat_lt longest (length text) then Err TooLong else text_read (pieces 10 text)

-- what code answers, in the words of a reading
abbrev pub as_reading : Result PlanLists TextFault → Result Listed TextFault
as_reading (Ok x) = Ok (listed x)
as_reading (Err fault) = Err fault

-- an answer and the lists that were noted are what a reading says
abbrev pub Says : {A : Type 0} → Result Listed TextFault → Result A TextFault → Listed → Type 0
Says said (Ok done) x = said ≡ Ok x
Says said (Err fault) x = said ≡ Err fault
