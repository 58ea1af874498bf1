-- What a text says: on its first line a ceiling, and on each line after it a penalty.
use Rattle.std.specs.Prelude.{◌≡◌, ℕ, ◌+◌, if◌then◌else◌, ◌&&◌, List, [], ◌∷◌, ◌++◌, length, Some, None, Ok, Err, Option, Result, ◌==◌, nat_le, nat_lt}
use Rattle.scale.specs.Ceilings.{highest}
use Rattle.plan_text.specs.Fields.{pieces, value}
use Rattle.report.specs.declared.refusal.Reason.{Reason}
use Rattle.report.specs.declared.refusal.Reason.TheVariants.{CeilingOutOfRange, PointsAboveCeiling, TextTooLong, MalformedLine}
use Rattle.report.specs.declared.refusal.Refusal.{Refusal}

-- the longest text that is read, in bytes
abbrev pub longest : ℕ
longest = 30720

-- a ceiling, and penalties up to it
pub record Row : Type 0 where
  pub ceiling : ℕ
  pub penalties : List ℕ

-- a refusal of a line, counted from 1; a refusal of the whole text has line 0
abbrev pub refused : {A : Type 0} → Reason → ℕ → Result A Refusal
refused why n = Err (record { reason = why; line = n })

abbrev pub then_read : {A B : Type 0} → Result A Refusal → (A → Result B Refusal) → Result B Refusal
then_read (Err why) next = Err why
then_read (Ok x) next = next x

-- the value of line n, from low to high: else it is malformed, or refused for the reason given
abbrev pub ranged : ℕ → ℕ → Reason → ℕ → Option ℕ → Result ℕ Refusal
ranged low high why n None = refused MalformedLine n
ranged low high why n (Some v) = if nat_le low v && nat_le v high then Ok v else refused why n

abbrev pub ceiling_of : List ℕ → Result ℕ Refusal
ceiling_of line = ranged 1 highest CeilingOutOfRange 1 (value line)

abbrev pub penalty_of : ℕ → ℕ → List ℕ → Result ℕ Refusal
penalty_of c n line = ranged 0 c PointsAboveCeiling n (value line)

-- the penalties from line n on, behind those before; every line ends in a line feed, so the last piece is empty
abbrev pub penalties_of : ℕ → ℕ → List ℕ → List (List ℕ) → Result Row Refusal
penalties_of c n before [] = refused MalformedLine n
penalties_of c n before (last ∷ []) = if length last == 0 then Ok (record { ceiling = c; penalties = before }) else refused MalformedLine n
penalties_of c n before (line ∷ next ∷ lines) =
    then_read (penalty_of c n line) (λ p. penalties_of c (n + 1) (before ++ p ∷ []) (next ∷ lines))

abbrev pub row_of : List (List ℕ) → Result Row Refusal
row_of [] = refused MalformedLine 1
row_of (last ∷ []) = refused MalformedLine 1
row_of (line ∷ next ∷ lines) = then_read (ceiling_of line) (λ c. penalties_of c 2 [] (next ∷ lines))

-- the row that a text says, or why it is refused
abbrev pub reading : List ℕ → Result Row Refusal
reading text = if nat_lt longest (length text) then refused TextTooLong 0 else row_of (pieces 10 text)

-- a ceiling or a refusal that was answered, with the penalties that were noted, is what a reading says
abbrev pub Says : Result Row Refusal → Result ℕ Refusal → List ℕ → Type 0
Says said (Ok c) ps = said ≡ Ok (record { ceiling = c; penalties = ps })
Says said (Err why) ps = said ≡ Err why
