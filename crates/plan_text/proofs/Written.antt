-- A column's name and a field's text read back.
use Rattle.std.proofs.Common.{◌≡◌, ℕ, ◌<◌, Bool, true, false, cond, eqb, List, [], ◌∷◌, ◌++◌, map, codes, bytes_eq, decimal, Option, Some, None, refl, sym, ap, subst, ◌∙◌, ⊎_elim, arith}
use Rattle.std.specs.Char.{is_ascii_digit}
use Rattle.std.specs.Str.{all_ascii_digits}
use Rattle.std.proofs.lemmas.Bool.{cond-true, cond-false, cases_Bool, and_parts, ne_eqb}
use Rattle.std.proofs.lemmas.Bool.Decides.{nat_tests}
use Rattle.std.proofs.lemmas.Slice.Eq.{bytes_eq-Decides}
use Rattle.plan_text.specs.declared.columns.Column.{Column}
use Rattle.plan_text.specs.declared.columns.Column.TheVariants.{Entry, Candidate, Other, Choice, Points}
use Rattle.plan_text.specs.declared.lines.Field.{Field}
use Rattle.plan_text.specs.declared.lines.Field.TheVariants.{Dash, Value}
use Rattle.plan_text.specs.Columns.{name, column}
use Rattle.plan_text.specs.Fields.{value}
use Rattle.plan_text.specs.Lines.{field, valued}
use Rattle.plan_text.specs.Writings.{between, text_of, IsSmall}
use Rattle.plan_text.proofs.Pieces.{Lacks, AllLack, none}
use Rattle.plan_text.proofs.Values.{value_back, value_text, digits_of}

pub name_back : (k : Column) → column (name k) ≡ Some k
name_back Entry = refl
name_back Candidate = refl
name_back Other = refl
name_back Choice = refl
name_back Points = refl

-- the first way of a chain of tests
chosen : {B : Type 0} (b : Bool) (y : B) (rest : Option B) (x : B) (Q : B → Type 0) →
    (b ≡ true → Q y) → (rest ≡ Some x → Q x) → cond b (Some y) rest ≡ Some x → Q x
chosen b y rest x Q here there h =
    ⊎_elim
    (λ is. let e : Some y ≡ Some x = sym (cond-true _ _ _ is) ∙ h in let same : y ≡ x = cc in subst Q same (here is))
    (λ isnt. there (sym (cond-false _ _ _ isnt) ∙ h))
    (cases_Bool b)

named : (bs : List ℕ) (k : Column) → bytes_eq (name k) bs ≡ true → (bs ≡ name k) × Unit {0}
named bs k is = (sym ((bytes_eq-Decides (name k) bs).0 is), tt)

pub name_text : (bs : List ℕ) (k : Column) → column bs ≡ Some k → (bs ≡ name k) × Unit {0}
name_text bs k h =
    let Q : Column → Type 0 = λ j. (bs ≡ name j) × Unit {0} in
    chosen (bytes_eq (name Entry) bs) Entry _ k Q (named bs Entry)
    (chosen (bytes_eq (name Candidate) bs) Candidate _ k Q (named bs Candidate)
    (chosen (bytes_eq (name Other) bs) Other _ k Q (named bs Other)
    (chosen (bytes_eq (name Choice) bs) Choice _ k Q (named bs Choice)
    (chosen (bytes_eq (name Points) bs) Points _ k Q (named bs Points) (λ e. absurd (none e)))))) h

-- digits are no dash
no_dash : (bs : List ℕ) → all_ascii_digits bs ≡ true → bytes_eq bs (codes "-") ≡ false
no_dash bs h =
    ⊎_elim
    (λ is. let z : all_ascii_digits (codes "-") ≡ true = ap all_ascii_digits (sym ((bytes_eq-Decides bs (codes "-")).0 is)) ∙ h in cc)
    (λ isnt. isnt)
    (cases_Bool (bytes_eq bs (codes "-")))

pub field_back : (x : Field) → IsSmall x → field (text_of x) ≡ Some x
field_back Dash h = refl
field_back (Value v) h =
    cond-false _ _ _ (no_dash (decimal v) (digits_of v h)) ∙ ap valued (value_back v h)

valued_parts : (o : Option ℕ) (x : Field) → valued o ≡ Some x → (v : ℕ) × (o ≡ Some v) × (Value v ≡ x)
valued_parts None x h = absurd (none h)
valued_parts (Some v) x h = (v, refl, cc)

pub field_text : (bs : List ℕ) (x : Field) → field bs ≡ Some x → (bs ≡ text_of x) × IsSmall x
field_text bs x h =
    let Q : Field → Type 0 = λ y. (bs ≡ text_of y) × IsSmall y in
    chosen (bytes_eq bs (codes "-")) Dash _ x Q (λ is. ((bytes_eq-Decides bs (codes "-")).0 is, tt))
    (λ e. let r = valued_parts (value bs) x e in subst Q r.2 (value_text bs r.0 r.1)) h

-- bytes that are no separators
abbrev lacking : ℕ → List ℕ → Bool
lacking sep [] = true
lacking sep (b ∷ bs) = cond (eqb b sep) false (lacking sep bs)

lacks_from : (sep : ℕ) (bs : List ℕ) → lacking sep bs ≡ true → Lacks sep bs
lacks_from sep [] h = tt
lacks_from sep (b ∷ bs) h =
    ⊎_elim
    (λ is. let z : false ≡ true = sym (cond-true _ _ _ is) ∙ h in cc)
    (λ isnt. (isnt, lacks_from sep bs (sym (cond-false _ _ _ isnt) ∙ h)))
    (cases_Bool (eqb b sep))

lacks_digits : (sep : ℕ) → sep < 48 → (bs : List ℕ) → all_ascii_digits bs ≡ true → Lacks sep bs
lacks_digits sep low [] h = tt
lacks_digits sep low (b ∷ bs) h =
    let p = and_parts (is_ascii_digit b) (all_ascii_digits bs) h in
    (ne_eqb b sep (λ e. absurd (not_low b p.0 (omega arith))), lacks_digits sep low bs p.1)
  where
    not_low : (b : ℕ) → is_ascii_digit b ≡ true → b < 48 → ⊥
    not_low b d l = grind (arith, nat_tests)

lacks_append : (sep : ℕ) (xs ys : List ℕ) → Lacks sep xs → Lacks sep ys → Lacks sep (xs ++ ys)
lacks_append sep [] ys h k = k
lacks_append sep (x ∷ xs) ys h k = (h.0, lacks_append sep xs ys h.1 k)

pub lacks_between : (sep other : ℕ) (ps : List (List ℕ)) → eqb other sep ≡ false → AllLack sep ps →
    Lacks sep (between other ps)
lacks_between sep other [] e h = tt
lacks_between sep other (p ∷ []) e h = h.0
lacks_between sep other (p ∷ q ∷ ps) e h = lacks_append sep p _ h.0 (e, lacks_between sep other (q ∷ ps) e h.1)

pub lacks_name : (k : Column) → Lacks 32 (name k) × Lacks 10 (name k)
lacks_name Entry = (lacks_from 32 (name Entry) refl, lacks_from 10 (name Entry) refl)
lacks_name Candidate = (lacks_from 32 (name Candidate) refl, lacks_from 10 (name Candidate) refl)
lacks_name Other = (lacks_from 32 (name Other) refl, lacks_from 10 (name Other) refl)
lacks_name Choice = (lacks_from 32 (name Choice) refl, lacks_from 10 (name Choice) refl)
lacks_name Points = (lacks_from 32 (name Points) refl, lacks_from 10 (name Points) refl)

pub lacks_text : (sep : ℕ) → sep < 45 → (x : Field) → IsSmall x → Lacks sep (text_of x)
lacks_text sep low Dash h = (ne_eqb 45 sep (λ e. omega arith), tt)
lacks_text sep low (Value v) h = lacks_digits sep (omega arith) (decimal v) (digits_of v h)

pub all_lack : {B : Type 0} (sep : ℕ) (g : B → List ℕ) (xs : List B) → ((x : B) → Lacks sep (g x)) → AllLack sep (map g xs)
all_lack sep g [] h = tt
all_lack sep g (x ∷ xs) h = (h x, all_lack sep g xs h)
