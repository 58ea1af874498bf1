-- What a fold over the digits of a field knows.
use Rattle.std.proofs.Common.{◌≡◌, ℕ, ◌+◌, ◌-◌, ◌*◌, ◌<◌, ◌≤◌, ◌^◌, true, if◌then◌else◌, List, [], ◌∷◌, ◌++◌, map, length, get_or, Some, None, Option, Bor, Iter, refl, sym, ap, ◌∙◌, ⊎_elim, rules, arith}
use Rattle.std.specs.Char.{is_ascii_digit}
use Rattle.std.specs.ControlFlow.{continue_value}
use Rattle.std.specs.Fn.{Mut, Called}
use Rattle.std.specs.Iterator.{YieldsThen, TryFoldsItems}
use Rattle.std.specs.Option.{MatchOption}
use Rattle.std.specs.Slice.Iter.{iter_rest}
use Rattle.std.specs.Str.{all_ascii_digits}
use Rattle.std.proofs.lemmas.Bool.{cond-true, cond-false, cases_Bool, and_from, and_right}
use Rattle.std.proofs.lemmas.Bool.Decides.{nat_tests}
use Rattle.std.proofs.lemmas.Fn.{fronts, chained_keeps}
use Rattle.std.proofs.lemmas.Iterator.{YieldsList, YieldsList-from_slice}
use Rattle.std.proofs.lemmas.Iterator.Consumers.{YieldsList-turn, YieldsList-end}
use Rattle.std.proofs.lemmas.List.{map_push, length-map, get_or_read_under}
use Rattle.std.proofs.lemmas.Str.Parse.{IsNumeralModel, numerals_by_fold, digits_value_short, digit_at}
use Rattle.plan_text.specs.Fields.{read_on, shaped, value}
use Rattle.plan_text.proofs.Pieces.{none}

pub own : IsNumeralModel (λ ds. all_ascii_digits ds ≡ true) (read_on 0)
own = numerals_by_fold _ (search rules) read_on (search rules)

-- the number that a byte makes of n, if it is a digit
abbrev pub next : ℕ → ℕ → Option ℕ
next n b = if is_ascii_digit b then Some (n * 10 + (b - 48)) else None

-- the bytes behind references
abbrev pub bytes : List (Bor ℕ) → List ℕ
bytes bs = map (λ b. b.now) bs

-- these bytes are digits, and write n
pub record Read (ds : List ℕ) (n : ℕ) : Type 0 where
  pub digits : all_ascii_digits ds ≡ true
  pub writes : n ≡ read_on 0 ds

-- one digit more at the end
digits_more : (ds : List ℕ) (d : ℕ) → all_ascii_digits ds ≡ true → is_ascii_digit d ≡ true →
    all_ascii_digits (ds ++ d ∷ []) ≡ true
digits_more [] d all is = and_from _ _ is refl
digits_more (x ∷ xs) d all is = grind (arith, nat_tests, digits_more xs d)

writes_more : (n : ℕ) (ds : List ℕ) (d : ℕ) →
    read_on n (ds ++ d ∷ []) ≡ read_on n ds * 10 + (d - 48)
writes_more n [] d = refl
writes_more n (x ∷ xs) d = writes_more (n * 10 + (x - 48)) xs d

same_number : {m n : ℕ} → Some m ≡ Some n → m ≡ n
same_number h = cc

one_more : (ds : List ℕ) (n b m : ℕ) → Read ds n → Some m ≡ next n b → Read (ds ++ b ∷ []) m
one_more ds n b m read e =
    ⊎_elim
    (λ is. record {
      digits = digits_more ds b read.digits is;
      writes =
          same_number (e ∙ cond-true _ _ _ is) ∙ ap (λ k. k * 10 + (b - 48)) read.writes
          ∙ sym (writes_more 0 ds b);
    })
    (λ isnt. absurd (none (sym (e ∙ cond-false _ _ _ isnt))))
    (cases_Bool (is_ascii_digit b))

module _ (t : List ℕ) (shape : shaped t ≡ true) where
  -- fewer digits than those of a value leave room for one more
  pub room : (bs : List (Bor ℕ)) (n : ℕ) → Read (bytes bs) n → length bs < length t → n < 10 ^ 7
  room bs n read l =
      let short : length t ≤ 7 = grind (arith, nat_tests) in
      let few : length (bytes bs) ≤ 7 = omega (arith, length-map bs (λ b. b.now)) in
      omega (arith, read.writes, digits_value_short own (bytes bs) 7 read.digits few)

  all_read : (n : ℕ) → Read t n → Some n ≡ value t
  all_read n read =
      ap Some read.writes ∙ sym (cond-true _ _ _ (and_from _ _ shape read.digits))

no_digit : (t : List ℕ) (i b n : ℕ) → i < length t → b ≡ get_or t i b → None ≡ next n b →
    None ≡ value t
no_digit t i b n l e stops =
    ⊎_elim
    (λ all. let here = digit_at t i (own.to t all) l in
    let same : b ≡ get_or t i 0 = get_or_read_under t i _ b 0 e l refl in
    let is : is_ascii_digit b ≡ true = grind (arith, nat_tests) in
    absurd (none (stops ∙ cond-true _ _ _ is)))
    (λ isnt. sym (cond-false _ _ _ (and_right (shaped t) _ isnt)))
    (cases_Bool (all_ascii_digits t))

-- a closure that answers `next` at each byte
module _ {F : Type 0} (g : Mut F (ℕ × (Bor ℕ × Unit {0})) (Option ℕ))
    (answers : (f : F) (n : ℕ) (b : Bor ℕ) (v : Option ℕ) (f' : F) →
    Called g f (n, (b, tt)) v f' → v ≡ next n b.now) where
  pub turn : (bs : List (Bor ℕ)) (p : F × ℕ) (b : Bor ℕ) (q : F × ℕ) → Read (bytes bs) p.1 →
      ((v : Option ℕ) × Called g p.0 (p.1, (b, tt)) v q.0 × (v ≡ Some q.1)) →
      Read (bytes (bs ++ b ∷ [])) q.1
  turn bs p b q read called =
      rw (map_push (λ b. b.now) bs b)
      (one_more (bytes bs) p.1 b.now q.1 read (sym called.2 ∙ answers _ _ _ _ _ called.1))

  pub folded : {E : Type 0} (t : List ℕ) (s u : Iter ℕ) (f : F) (r : Option ℕ) →
      iter_rest s ≡ t → shaped t ≡ true →
      TryFoldsItems fronts {E = E} g (λ v c. v ≡ continue_value c) (λ _ v. v ≡ None) s f 0 r u →
      r ≡ value t
  folded {E} t s u f r from shape ran = by ran.1 ran.4 ran.6
    where
      road : YieldsList fronts (λ b. b.now) s t
      road = YieldsList-from_slice t from

      read : Read (bytes ran.0) ran.3
      read =
          chained_keeps _ (λ bs p. Read (bytes bs) p.1) turn ran.0 _ _
          (record { digits = refl; writes = refl }) ran.5

      by : (o : Option (Bor ℕ)) → YieldsThen fronts s ran.0 o u →
          MatchOption o (r ≡ Some ran.3) (λ b. (v : Option ℕ) × (h : F) × E
          × Called g ran.2 (ran.3, (b, tt)) v h × (v ≡ None) × (r ≡ None)) →
          r ≡ value t
      by None given end =
          let whole = YieldsList-end road ran.0 given.0 given.1 None u refl given.2 in
          end ∙ all_read t shape _ (rw whole.0 at read)
      by (Some b) given end =
          let here = YieldsList-turn road ran.0 given.0 given.1 (Some b) u b refl given.2 in
          end.5 ∙ no_digit t _ b.now _ here.0 here.1 (sym end.4 ∙ answers _ _ _ _ _ end.3)
