-- How lists are written as the text of a plan.
use Rattle.std.specs.Prelude.{◌≡◌, ℕ, zero, suc, ◌+◌, ◌^◌, ◌<◌, ◌≤◌, true, List, [], ◌∷◌, ◌++◌, map, length, codes, decimal}
use Rattle.plan_text.specs.declared.columns.Column.{Column}
use Rattle.plan_text.specs.declared.columns.Column.TheVariants.{Entry, Candidate, Other, Choice, Points}
use Rattle.plan_text.specs.declared.lines.Field.{Field}
use Rattle.plan_text.specs.declared.lines.Field.TheVariants.{Dash, Value}
use Rattle.plan_text.specs.declared.lines.Line.{Line}
use Rattle.plan_text.specs.declared.lines.Line.TheVariants.{Own, Pair}
use Rattle.plan_text.specs.Columns.{name, is_complete}
use Rattle.plan_text.specs.Lists.{Listed}

-- pieces with a separator between them
abbrev pub between : ℕ → List (List ℕ) → List ℕ
between separator [] = []
between separator (p ∷ []) = p
between separator (p ∷ q ∷ ps) = p ++ separator ∷ between separator (q ∷ ps)

-- lines, each with a line feed
abbrev pub ended : List (List ℕ) → List ℕ
ended [] = []
ended (line ∷ lines) = line ++ 10 ∷ ended lines

abbrev pub text_of : Field → List ℕ
text_of Dash = codes "-"
text_of (Value v) = decimal v

-- what a line has under a column
abbrev pub field_of : Line → Column → Field
field_of (Own e c p) Entry = Value e
field_of (Own e c p) Candidate = Value c
field_of (Own e c p) Other = Dash
field_of (Own e c p) Choice = Dash
field_of (Own e c p) Points = Value p
field_of (Pair r) Entry = Value r.entry
field_of (Pair r) Candidate = Value r.candidate
field_of (Pair r) Other = Value r.other
field_of (Pair r) Choice = Value r.choice
field_of (Pair r) Points = Value r.points

abbrev pub written_line : List Column → Line → List ℕ
written_line order x = between 32 (map (λ k. text_of (field_of x k)) order)

abbrev pub written_names : List Column → List ℕ
written_names order = between 32 (map name order)

-- a text of these lines, below the names of their columns
abbrev pub written : List Column → List Line → List ℕ
written order xs = ended (written_names order ∷ map (written_line order) xs)

-- the candidates 0 to n - 1 of the entry e
abbrev pub candidates : ℕ → ℕ → List (ℕ × ℕ)
candidates e zero = []
candidates e (suc c) = candidates e c ++ (e, c) ∷ []

-- those of the entry e and of the entries after it
abbrev pub places : ℕ → List ℕ → List (ℕ × ℕ)
places e [] = []
places e (n ∷ ns) = candidates e n ++ places (e + 1) ns

-- an own line for each candidate
abbrev pub own_lines : List (ℕ × ℕ) → List ℕ → List Line
own_lines [] ps = []
own_lines (q ∷ qs) [] = []
own_lines (q ∷ qs) (p ∷ ps) = Own q.0 q.1 p ∷ own_lines qs ps

-- the lines of lists: the own lines, and then the pair lines
abbrev pub lines_of : Listed → List Line
lines_of x = own_lines (places 0 x.counts) x.own ++ map Pair x.pairs

-- the text of lists
abbrev pub text_of_lists : List Column → Listed → List ℕ
text_of_lists order x = written order (lines_of x)

-- each column stands once in an order
pub record IsOrder (order : List Column) : Type 0 where
  pub long : length order ≡ 5
  pub once : is_complete order ≡ true

abbrev pub Each : {B : Type 0} → (B → Type 0) → List B → Type 0
Each P [] = Unit {0}
Each P (x ∷ xs) = P x × Each P xs

-- a value has at most seven digits
abbrev pub IsSmall : Field → Type 0
IsSmall Dash = Unit {0}
IsSmall (Value v) = v < 10 ^ 7

abbrev pub HasSmallValues : Line → Type 0
HasSmallValues x = (k : Column) → IsSmall (field_of x k)

abbrev pub IsFew : ℕ → Type 0
IsFew n = (1 ≤ n) × (n ≤ 8)

-- lists that a text can say: at most 16 entries of 1 to 8 candidates, an own penalty for each candidate, and no value of
-- more than seven digits
pub record Sayable (x : Listed) : Type 0 where
  pub entries : length x.counts ≤ 16
  pub few : Each IsFew x.counts
  pub own_for_each : length (places 0 x.counts) ≡ length x.own
  pub small : Each HasSmallValues (lines_of x)
