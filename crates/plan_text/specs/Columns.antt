-- The columns of a plan's text, and the order that its first line gives them.
use Rattle.std.specs.Prelude.{ℕ, Bool, if◌then◌else◌, List, [], ◌∷◌, length, Some, None, Option, ◌==◌, bytes_eq, codes, find, count_by}
use Rattle.std.specs.List.{list_all}
use Rattle.plan_text.specs.declared.columns.Column.{Column}
use Rattle.plan_text.specs.declared.columns.Column.TheVariants.{Entry, Candidate, Other, Choice, Points}
use Rattle.plan_text.specs.Fields.{pieces}

-- what a column is called
abbrev pub name : Column → List ℕ
name Entry = codes "entry"
name Candidate = codes "candidate"
name Other = codes "other"
name Choice = codes "choice"
name Points = codes "points"

abbrev pub all_columns : List Column
all_columns = Entry ∷ Candidate ∷ Other ∷ Choice ∷ Points ∷ []

-- the column that a name names
abbrev pub column : List ℕ → Option Column
column field = find (λ k. bytes_eq (name k) field) all_columns

abbrev pub place : Column → ℕ
place Entry = 0
place Candidate = 1
place Other = 2
place Choice = 3
place Points = 4

abbrev pub alike : Column → Column → Bool
alike j k = place j == place k

-- a column stands once in the order
abbrev pub stands_once : List Column → Column → Bool
stands_once order k = count_by (alike k) order == 1

-- each column stands once
abbrev pub is_complete : List Column → Bool
is_complete order = list_all (stands_once order) all_columns

-- what is read of the first, and then of the rest
abbrev pub both : {B : Type 0} → Option B → Option (List B) → Option (List B)
both None rest = None
both (Some x) None = None
both (Some x) (Some xs) = Some (x ∷ xs)

-- what is read of each piece, if each can be read
abbrev pub each : {B : Type 0} → (List ℕ → Option B) → List (List ℕ) → Option (List B)
each read [] = Some []
each read (p ∷ ps) = both (read p) (each read ps)

-- what is read of each of five fields between single spaces
abbrev pub five : {B : Type 0} → (List ℕ → Option B) → List ℕ → Option (List B)
five read line = if length (pieces 32 line) == 5 then each read (pieces 32 line) else None

abbrev pub if_complete : Option (List Column) → Option (List Column)
if_complete None = None
if_complete (Some order) = if is_complete order then Some order else None

-- the order that the names of a line give the columns: five names between single spaces, each once
abbrev pub order_of : List ℕ → Option (List Column)
order_of line = if_complete (five column line)
