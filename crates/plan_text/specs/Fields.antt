-- Text as lists of bytes: cut into pieces, and read as a value.
use Rattle.std.specs.Prelude.{ℕ, ◌+◌, ◌-◌, ◌*◌, Bool, if◌then◌else◌, not, ◌&&◌, ◌||◌, List, [], ◌∷◌, length, Some, None, Option, ◌==◌, nat_le, slice_index}
use Rattle.std.specs.Str.{all_ascii_digits}

-- pieces with one byte more at the front of the first
abbrev pub onto_first : ℕ → List (List ℕ) → List (List ℕ)
onto_first b [] = (b ∷ []) ∷ []
onto_first b (p ∷ ps) = (b ∷ p) ∷ ps

-- what stands before, between and after the separators: one piece more than there are separators
abbrev pub pieces : ℕ → List ℕ → List (List ℕ)
pieces separator [] = [] ∷ []
pieces separator (b ∷ bs) = if b == separator then [] ∷ pieces separator bs else onto_first b (pieces separator bs)

-- the number that digits write behind those of n
abbrev pub read_on : ℕ → List ℕ → ℕ
read_on n [] = n
read_on n (d ∷ ds) = read_on (n * 10 + (d - 48)) ds

-- 1 to 7 bytes, of which the first is no 0 unless it is alone
abbrev pub shaped : List ℕ → Bool
shaped bs = nat_le 1 (length bs) && (nat_le (length bs) 7 && (length bs == 1 || not (slice_index bs 0 == 48)))

-- a value is 1 to 7 decimal digits without a leading zero, except 0 itself
abbrev pub value : List ℕ → Option ℕ
value bs = if shaped bs && all_ascii_digits bs then Some (read_on 0 bs) else None
