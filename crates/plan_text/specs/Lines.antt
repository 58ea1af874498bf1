-- What a line of a plan's text says.
use Rattle.std.specs.Prelude.{ℕ, if◌then◌else◌, List, Some, None, Option, bytes_eq, codes, position, slice_index_or}
use Rattle.plan_text.specs.declared.columns.Column.{Column}
use Rattle.plan_text.specs.declared.columns.Column.TheVariants.{Entry, Candidate, Other, Choice, Points}
use Rattle.plan_text.specs.declared.lines.Field.{Field}
use Rattle.plan_text.specs.declared.lines.Field.TheVariants.{Dash, Value}
use Rattle.plan_text.specs.declared.lines.Line.{Line}
use Rattle.plan_text.specs.declared.lines.Line.TheVariants.{Own, Pair}
use Rattle.plan_text.specs.Columns.{alike, five}
use Rattle.plan_text.specs.Fields.{value}

abbrev pub valued : Option ℕ → Option Field
valued None = None
valued (Some v) = Some (Value v)

-- a field is "-" or a value
abbrev pub field : List ℕ → Option Field
field text = if bytes_eq text (codes "-") then Some Dash else valued (value text)

-- the field at the place where a column stands in the order; every order that is read has each column
abbrev pub field_at : List Field → Option ℕ → Field
field_at fields None = Dash
field_at fields (Some i) = slice_index_or fields i Dash

abbrev pub under : Column → List Column → List Field → Field
under k order fields = field_at fields (position (λ j. alike j k) order)

-- an own line has "-" for other and choice; a pair line has five values
abbrev pub line_with : Field → Field → Field → Field → Field → Option Line
line_with (Value e) (Value c) Dash Dash (Value p) = Some (Own e c p)
line_with (Value e) (Value c) (Value o) (Value h) (Value p) =
    Some (Pair (record { entry = e; candidate = c; other = o; choice = h; points = p }))
line_with _ _ _ _ _ = None

abbrev pub line_under : List Column → Option (List Field) → Option Line
line_under order None = None
line_under order (Some fields) =
    line_with (under Entry order fields) (under Candidate order fields) (under Other order fields) (under Choice order fields) (under Points order fields)

-- the line that a text says: five fields between single spaces, in the order of the columns
abbrev pub line_of : List Column → List ℕ → Option Line
line_of order text = line_under order (five field text)
