-- What a loop over the lines of penalties knows.
use Rattle.std.proofs.Common.{◌≡◌, ℕ, ◌+◌, ◌<◌, ◌≤◌, List, [], ◌∷◌, ◌++◌, length, Ok, Err, Result, sym, refl, ap, ◌∙◌, arith}
use Rattle.std.proofs.lemmas.Bool.{cond-false, le-ltb, ne_eqb}
use Rattle.plan_text.specs.Fields.{pieces}
use Rattle.report.specs.Readings.{Row, longest, refused, then_read, penalty_of, ceiling_of, penalties_of, row_of, reading}
use Rattle.report.specs.declared.refusal.Reason.TheVariants.{MalformedLine}
use Rattle.report.specs.declared.refusal.Refusal.{Refusal}
use Rattle.plan_text.proofs.Cuts.{pieces_some}

-- what follows a first line of ceiling c
abbrev after_ceiling : List ℕ → ℕ → Result Row Refusal
after_ceiling after c = penalties_of c 2 [] (pieces 10 after)

-- what follows a line n of penalty p, behind those before
abbrev after_penalty : ℕ → ℕ → List ℕ → List ℕ → ℕ → Result Row Refusal
after_penalty c n before after p = penalties_of c (n + 1) (before ++ p ∷ []) (pieces 10 after)

-- a line that is cut off, and then the lines after it
penalties_line : (c n : ℕ) (before line after : List ℕ) →
    penalties_of c n before (line ∷ pieces 10 after)
    ≡ then_read (penalty_of c n line)
    (λ p. penalties_of c (n + 1) (before ++ p ∷ []) (pieces 10 after))
penalties_line c n before line after = rw (pieces_some 10 after).2 refl

row_line : (line after : List ℕ) →
    row_of (line ∷ pieces 10 after)
    ≡ then_read (ceiling_of line) (λ c. penalties_of c 2 [] (pieces 10 after))
row_line line after = rw (pieces_some 10 after).2 refl

-- the first line of a text that is not too long, and then the lines after it
module _ (text line after : List ℕ) (short : length text ≤ longest)
    (cut : pieces 10 text ≡ line ∷ pieces 10 after) where
  text_line : reading text ≡ then_read (ceiling_of line) (after_ceiling after)
  text_line =
      cond-false _ _ _ (le-ltb longest (length text) short) ∙ ap row_of cut ∙ row_line line after

  pub ceiling_refused : (why : Refusal) → Err why ≡ ceiling_of line → reading text ≡ Err why
  ceiling_refused why e = text_line ∙ ap (λ o. then_read o (after_ceiling after)) (sym e)

  pub ceiling_read : (c : ℕ) → Ok c ≡ ceiling_of line → reading text ≡ after_ceiling after c
  ceiling_read c e = text_line ∙ ap (λ o. then_read o (after_ceiling after)) (sym e)

-- the lines before line n are read, penalties holds what they gave in a room for cap, and rest is
-- still to be read
pub record LinesRead (c : ℕ) (lines : List ℕ) (n : ℕ) (penalties : List ℕ) (count cap : ℕ)
    (rest : List ℕ) : Type 0 where
  pub same : penalties_of c 2 [] (pieces 10 lines) ≡ penalties_of c n penalties (pieces 10 rest)
  pub counted : n + length rest ≤ 2 + length lines
  pub room : count + length rest ≤ cap

module _ {c n count cap : ℕ} {lines penalties rest : List ℕ}
    (h : LinesRead c lines n penalties count cap rest) where
  -- what is left is no whole line
  pub last_refused : pieces 10 rest ≡ rest ∷ [] → 0 < length rest →
      penalties_of c 2 [] (pieces 10 lines) ≡ refused MalformedLine n
  last_refused lone some =
      h.same ∙ ap (penalties_of c n penalties) lone
      ∙ cond-false _ _ _ (ne_eqb (length rest) 0 (λ e. omega arith))

  module _ (line after : List ℕ) (cut : pieces 10 rest ≡ line ∷ pieces 10 after) where
    next : penalties_of c 2 [] (pieces 10 lines)
        ≡ then_read (penalty_of c n line) (after_penalty c n penalties after)
    next = h.same ∙ ap (penalties_of c n penalties) cut ∙ penalties_line c n penalties line after

    pub line_refused : (why : Refusal) → Err why ≡ penalty_of c n line →
        penalties_of c 2 [] (pieces 10 lines) ≡ Err why
    line_refused why e = next ∙ ap (λ o. then_read o (after_penalty c n penalties after)) (sym e)

    pub line_read : (n' p : ℕ) (penalties' : List ℕ) (count' cap' : ℕ) →
        Ok p ≡ penalty_of c n line → n' ≡ n + 1 → penalties' ≡ penalties ++ p ∷ [] →
        count' ≡ count + 1 → cap' ≡ cap → length after < length rest →
        LinesRead c lines n' penalties' count' cap' after
    line_read n' p penalties' count' cap' e follows pushed more kept shorter = record {
      same =
          next ∙ ap (λ o. then_read o (after_penalty c n penalties after)) (sym e)
          ∙ ap (λ ps. penalties_of c (n + 1) ps (pieces 10 after)) (sym pushed)
          ∙ ap (λ m. penalties_of c m penalties' (pieces 10 after)) (sym follows);
      counted = omega (arith, h.counted);
      room = omega (arith, h.room);
    }
