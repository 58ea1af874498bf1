-- A value that is written reads back, and a field that is read is what is written of its value.
use Rattle.std.proofs.Common.{◌≡◌, ℕ, ◌^◌, ◌<◌, ◌≤◌, lit<, true, eqb, not, ◌&&◌, ◌||◌, List, length, get_or, Some, decimal, sym, ap, ◌∙◌, ⊎_elim, arith}
use Rattle.std.specs.Str.{all_ascii_digits}
use Rattle.std.proofs.lemmas.Bool.{cond-true, cond-false, cases_Bool, cases_lt, and_parts, and_from, or_left, or_right, not_from_false, eq-eqb, ne_eqb, leb-true, le-leb}
use Rattle.std.proofs.lemmas.Bool.Decides.{nat_tests}
use Rattle.std.proofs.lemmas.Fmt.{digits_decimal, digits_value-decimal, decimal-digits_value, decimal_nonempty, decimal_digit, first_decimal, length-decimal-le}
use Rattle.std.proofs.lemmas.Str.Parse.{digits_value_short}
use Rattle.plan_text.specs.Fields.{read_on, shaped, value}
use Rattle.plan_text.proofs.Digits.{own}
use Rattle.plan_text.proofs.Pieces.{none}

fits : (n : ℕ) → n < 10 ^ 7 → n < 2 ^ 64
fits n h = omega arith

above : (b : ℕ) → 48 < b → b ≡ 48 → ⊥
above b h e = omega arith

first : (n : ℕ) → n < 10 ^ 7 →
    (eqb (length (decimal n)) 1 || not (eqb (get_or (decimal n) 0 0) 48)) ≡ true
first n h =
    ⊎_elim
    (λ zero. or_left _ _ (eq-eqb _ 1 (ap length (decimal_digit n (omega arith)))))
    (λ more. or_right _ _ (not_from_false _ (ne_eqb _ 48 (λ e. above _ (first_decimal n more (fits n h)) e))))
    (cases_lt n 1)

shaped_decimal : (n : ℕ) → n < 10 ^ 7 → shaped (decimal n) ≡ true
shaped_decimal n h =
    let wide = fits n h in
    let some : 1 ≤ length (decimal n) = decimal_nonempty n wide in
    let short = length-decimal-le 7 n (lit< tt) h wide in
    and_from _ _ (le-leb 1 _ some) (and_from _ _ (le-leb _ 7 short) (first n h))

pub digits_of : (n : ℕ) → n < 10 ^ 7 → all_ascii_digits (decimal n) ≡ true
digits_of n h = digits_decimal own n (fits n h)

pub value_back : (n : ℕ) → n < 10 ^ 7 → value (decimal n) ≡ Some n
value_back n h =
    cond-true _ _ _ (and_from _ _ (shaped_decimal n h) (digits_of n h))
    ∙ ap Some (digits_value-decimal own n (fits n h))

-- the text of a field that is read
pub value_text : (bs : List ℕ) (n : ℕ) → value bs ≡ Some n → (bs ≡ decimal n) × (n < 10 ^ 7)
value_text bs n e =
    ⊎_elim
    (λ is. let both = and_parts (shaped bs) (all_ascii_digits bs) is in
    let low = and_parts _ _ both.0 in
    let mid = and_parts _ _ low.1 in
    let small = digits_value_short own bs 7 both.1 (leb-true _ 7 mid.0) in
    let same : read_on 0 bs ≡ n = some_same (sym (cond-true _ _ _ is) ∙ e) in (
      sym (decimal-digits_value own bs both.1 (leb-true 1 _ low.0) (λ z. lone _ _ z mid.1) (fits _ small))
          ∙ ap decimal same,
      rw same at small,
    ))
    (λ isnt. absurd (none (sym (cond-false _ _ _ isnt) ∙ e)))
    (cases_Bool (shaped bs && all_ascii_digits bs))
  where
    some_same : {a b : ℕ} → Some a ≡ Some b → a ≡ b
    some_same h = cc

    lone : (k b : ℕ) → b ≡ 48 → (eqb k 1 || not (eqb b 48)) ≡ true → k ≡ 1
    lone k b z h = grind (arith, nat_tests)
