-- What a loop over the lines of a text knows.
use Rattle.std.proofs.Common.{◌≡◌, ℕ, ◌+◌, ◌<◌, ◌≤◌, List, [], ◌∷◌, length, Ok, Err, Result, sym, refl, ap, ◌∙◌, arith}
use Rattle.std.proofs.lemmas.Bool.{cond-false, le-ltb, ne_eqb}
use Rattle.plan_text.specs.declared.columns.Column.{Column}
use Rattle.plan_text.specs.declared.faults.TextFault.{TextFault}
use Rattle.plan_text.specs.declared.faults.TextFault.TheVariants.{Names, Malformed}
use Rattle.plan_text.specs.declared.lists.PlanLists.{PlanLists}
use Rattle.plan_text.specs.Columns.{order_of}
use Rattle.plan_text.specs.Fields.{pieces}
use Rattle.plan_text.specs.Lines.{line_of}
use Rattle.plan_text.specs.Lists.{Listed, nothing, listed}
use Rattle.plan_text.specs.Readings.{longest, line_read, then_read, lines_read, under_names, text_read, reading}
use Rattle.plan_text.specs.Rooms.{RoomFor}
use Rattle.plan_text.proofs.Cuts.{pieces_some}

-- what follows a line n that made the lists x
abbrev after_line : List Column → ℕ → List ℕ → Listed → Result Listed TextFault
after_line order n after x = lines_read order (n + 1) x (pieces 10 after)

-- a line that is cut off, and then the lines after it
lines_line : (order : List Column) (n : ℕ) (x : Listed) (line after : List ℕ) →
    lines_read order n x (line ∷ pieces 10 after)
    ≡ then_read (line_read n x (line_of order line)) (λ y. lines_read order (n + 1) y (pieces 10 after))
lines_line order n x line after = rw (pieces_some 10 after).2 refl

names_line : (line after : List ℕ) →
    text_read (line ∷ pieces 10 after) ≡ under_names (order_of line) (pieces 10 after)
names_line line after = rw (pieces_some 10 after).2 refl

pub less_room : {x : PlanLists} {n : ℕ} → RoomFor x n → (m : ℕ) → m ≤ n → RoomFor x m
less_room h m l = record { counts = h.counts; own = omega (arith, h.own); pairs = omega (arith, h.pairs) }

module _ (text : List ℕ) (short : length text ≤ longest) where
  pub lone_refused : pieces 10 text ≡ text ∷ [] → reading text ≡ Err Names
  lone_refused lone = cond-false _ _ _ (le-ltb longest (length text) short) ∙ ap text_read lone

  pub names_first : (line after : List ℕ) → pieces 10 text ≡ line ∷ pieces 10 after →
      reading text ≡ under_names (order_of line) (pieces 10 after)
  names_first line after cut =
      cond-false _ _ _ (le-ltb longest (length text) short) ∙ ap text_read cut ∙ names_line line after

-- the lines before line n made the lists x, and rest is still to be read
pub record LinesRead (order : List Column) (lines : List ℕ) (n : ℕ) (x : PlanLists) (rest : List ℕ)
    : Type 0 where
  pub same : lines_read order 2 nothing (pieces 10 lines) ≡ lines_read order n (listed x) (pieces 10 rest)
  pub counted : n + length rest ≤ 2 + length lines
  pub room : RoomFor x (length rest)

module _ {order : List Column} {n : ℕ} {lines rest : List ℕ} {x : PlanLists}
    (h : LinesRead order lines n x rest) where
  -- what is left is no whole line
  pub last_refused : pieces 10 rest ≡ rest ∷ [] → 0 < length rest →
      lines_read order 2 nothing (pieces 10 lines) ≡ Err (Malformed n)
  last_refused lone some =
      h.same ∙ ap (lines_read order n (listed x)) lone
      ∙ cond-false _ _ _ (ne_eqb (length rest) 0 (λ e. omega arith))

  module _ (line after : List ℕ) (cut : pieces 10 rest ≡ line ∷ pieces 10 after) where
    next : lines_read order 2 nothing (pieces 10 lines)
        ≡ then_read (line_read n (listed x) (line_of order line)) (after_line order n after)
    next = h.same ∙ ap (lines_read order n (listed x)) cut ∙ lines_line order n (listed x) line after

    pub line_refused : (why : TextFault) → line_read n (listed x) (line_of order line) ≡ Err why →
        lines_read order 2 nothing (pieces 10 lines) ≡ Err why
    line_refused why e = next ∙ ap (λ o. then_read o (after_line order n after)) e

    pub line_goes : (n' : ℕ) (x' : PlanLists) →
        line_read n (listed x) (line_of order line) ≡ Ok (listed x') → n' ≡ n + 1 →
        ((m : ℕ) → RoomFor x (m + 1) → RoomFor x' m) → length after < length rest →
        LinesRead order lines n' x' after
    line_goes n' x' e follows takes shorter = record {
      same =
          next ∙ ap (λ o. then_read o (after_line order n after)) e
          ∙ ap (λ m. lines_read order m (listed x') (pieces 10 after)) (sym follows);
      counted = omega (arith, h.counted);
      room = takes (length after) (less_room h.room (length after + 1) (omega arith));
    }
