-- The text of lists in the order in which it is written, row by row.
use Rattle.std.specs.Prelude.{ℕ, ◌+◌, min, List, [], ◌∷◌, ◌++◌, length, take, drop}
use Rattle.plan.specs.declared.records.PairRecord.{PairRecord}
use Rattle.plan_text.specs.declared.columns.Column.{Column}
use Rattle.plan_text.specs.declared.lines.Line.TheVariants.{Own, Pair}
use Rattle.plan_text.specs.declared.writing.Row.{Row}
use Rattle.plan_text.specs.declared.writing.Row.TheVariants.{Names, Of}
use Rattle.plan_text.specs.Columns.{name}
use Rattle.plan_text.specs.Writings.{field_of, text_of}

-- what stands under a column
abbrev pub under_column : Row → Column → List ℕ
under_column Names k = name k
under_column (Of x) k = text_of (field_of x k)

-- what stands under columns, each behind a space
abbrev pub spaced : (Column → List ℕ) → List Column → List ℕ
spaced f [] = []
spaced f (k ∷ ks) = (32 ∷ f k) ++ spaced f ks

-- a row with its line feed
abbrev pub row_text : (Column → List ℕ) → List Column → List ℕ
row_text f [] = 10 ∷ []
row_text f (k ∷ ks) = (f k ++ spaced f ks) ++ 10 ∷ []

-- own lines of the entry e, from the candidate c on
abbrev pub entry_texts : List Column → ℕ → ℕ → List ℕ → List ℕ
entry_texts order e c [] = []
entry_texts order e c (p ∷ ps) = row_text (under_column (Of (Own e c p))) order ++ entry_texts order e (c + 1) ps

-- own lines, from the entry e on
abbrev pub own_texts : List Column → ℕ → List ℕ → List ℕ → List ℕ
own_texts order e [] ps = []
own_texts order e (n ∷ ns) ps =
    entry_texts order e 0 (take (min (length ps) n) ps) ++ own_texts order (e + 1) ns (drop (min (length ps) n) ps)

-- pair lines
abbrev pub pair_texts : List Column → List PairRecord → List ℕ
pair_texts order [] = []
pair_texts order (r ∷ rs) = row_text (under_column (Of (Pair r))) order ++ pair_texts order rs
