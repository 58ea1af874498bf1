-- Each field of a line stands under its column.
use Rattle.std.proofs.Common.{◌≡◌, ℕ, ◌+◌, ◌<◌, ◌≤◌, Bool, true, false, cond, ◌&&◌, List, [], ◌∷◌, ◌++◌, map, length, append_assoc, count_by, Some, slice_index_or, refl, sym, ap, subst, ◌∙◌, ⊎_elim, arith}
use Rattle.std.specs.List.{position_from}
use Rattle.std.proofs.lemmas.Bool.{cond-true, cond-false, cases_Bool, and_parts, eq-eqb, eqb-true}
use Rattle.std.proofs.lemmas.Iterator.Adapters.{position_from-zero}
use Rattle.std.proofs.lemmas.List.{length-map, length_push}
use Rattle.std.proofs.lemmas.List.Recursion.{is_count_by}
use Rattle.plan_text.specs.declared.columns.Column.{Column}
use Rattle.plan_text.specs.declared.columns.Column.TheVariants.{Entry, Candidate, Other, Choice, Points}
use Rattle.plan_text.specs.declared.lines.Field.{Field}
use Rattle.plan_text.specs.declared.lines.Field.TheVariants.{Dash, Value}
use Rattle.plan_text.specs.declared.lines.Line.{Line}
use Rattle.plan_text.specs.declared.lines.Line.TheVariants.{Own, Pair}
use Rattle.plan_text.specs.Columns.{place, alike, all_columns, stands_once, is_complete}
use Rattle.plan_text.specs.Lines.{field_at, under, line_with, line_under}
use Rattle.plan_text.specs.Writings.{field_of}
use Rattle.plan_text.proofs.Pieces.{none}

alike_self : (k : Column) → alike k k ≡ true
alike_self k = eq-eqb (place k) (place k) refl

at_place : (k : Column) → slice_index_or all_columns (place k) Entry ≡ k
at_place Entry = refl
at_place Candidate = refl
at_place Other = refl
at_place Choice = refl
at_place Points = refl

pub alike_same : (j k : Column) → alike j k ≡ true → j ≡ k
alike_same j k h =
    sym (at_place j) ∙ ap (λ n. slice_index_or all_columns n Entry) (eqb-true (place j) (place k) h) ∙ at_place k

alike_turned : (j k : Column) → alike j k ≡ alike k j
alike_turned j k =
    ⊎_elim
    (λ is. is ∙ sym (alike_self k) ∙ ap (λ i. alike k i) (sym (alike_same j k is)))
    (λ isnt. ⊎_elim
    (λ is. absurd (let same = alike_same k j is in let z : false ≡ true = sym isnt ∙ ap (λ i. alike j i) same ∙ alike_self j in cc))
    (λ too. isnt ∙ sym too)
    (cases_Bool (alike k j)))
    (cases_Bool (alike j k))

-- how often a column stands in an order
abbrev pub occurs : Column → List Column → ℕ
occurs k [] = 0
occurs k (j ∷ js) = cond (alike j k) (1 + occurs k js) (occurs k js)

occurs_counts : (k : Column) (o : List Column) → occurs k o ≡ count_by (alike k) o
occurs_counts k = is_count_by (occurs k) (alike k) refl
    (λ j js. ap (λ b. cond b (1 + occurs k js) (occurs k js)) (alike_turned j k))

five_parts : (a b c d e : Bool) → (a && (b && (c && (d && (e && true))))) ≡ true →
    (a ≡ true) × (b ≡ true) × (c ≡ true) × (d ≡ true) × (e ≡ true)
five_parts a b c d e h =
    let p = and_parts a (b && (c && (d && (e && true)))) h in
    let q = and_parts b (c && (d && (e && true))) p.1 in
    let r = and_parts c (d && (e && true)) q.1 in
    let s = and_parts d (e && true) r.1 in
    let t = and_parts e true s.1 in
    (p.0, q.0, r.0, s.0, t.0)

pub occurs_once : (o : List Column) → is_complete o ≡ true → (k : Column) → occurs k o ≡ 1
occurs_once o h k =
    let p = five_parts (stands_once o Entry) (stands_once o Candidate) (stands_once o Other) (stands_once o Choice) (stands_once o Points) h in
    let all : stands_once o k ≡ true = elim k as (λ k. stands_once o k ≡ true) [ Entry ↦ p.0 | Candidate ↦ p.1 | Other ↦ p.2 | Choice ↦ p.3 | Points ↦ p.4 ] in
    occurs_counts k o ∙ eqb-true _ 1 all

abbrev Uniq : List Column → Type 0
Uniq [] = Unit {0}
Uniq (j ∷ js) = (occurs j js ≡ 0) × Uniq js

here_more : (j : Column) (js : List Column) → occurs j (j ∷ js) ≡ 1 + occurs j js
here_more j js = cond-true _ _ _ (alike_self j)

uniq_from : (o : List Column) → ((k : Column) → occurs k o ≤ 1) → Uniq o
uniq_from [] h = tt
uniq_from (j ∷ js) h = (only (occurs j js) (here_more j js) (h j), uniq_from js (λ k. fewer (alike j k) (occurs k js) (h k)))
  where
    only : {m : ℕ} (n : ℕ) → m ≡ 1 + n → m ≤ 1 → n ≡ 0
    only n e l = omega arith

    fewer : (b : Bool) (n : ℕ) → cond b (1 + n) n ≤ 1 → n ≤ 1
    fewer true n l = omega arith
    fewer false n l = l

-- the field under a column, one by one
abbrev at_column : Column → List Column → List Field → Field
at_column k [] fs = Dash
at_column k (j ∷ js) [] = Dash
at_column k (j ∷ js) (f ∷ fs) = cond (alike j k) f (at_column k js fs)

in_the_middle : (front : List Field) (f : Field) (fs : List Field) (i : ℕ) → length front ≡ i →
    slice_index_or (front ++ f ∷ fs) i Dash ≡ f
in_the_middle [] f fs i l = ap (λ n. slice_index_or (f ∷ fs) n Dash) (sym l)
in_the_middle (x ∷ xs) f fs i l =
    ap (λ n. slice_index_or (x ∷ (xs ++ f ∷ fs)) n Dash) (sym l) ∙ in_the_middle xs f fs (length xs) refl

-- the place found from i on, among fields of which i stand before
skipped : (k : Column) (js : List Column) (front fs : List Field) (i : ℕ) → length front ≡ i →
    length js ≡ length fs →
    field_at (front ++ fs) (position_from (λ j. alike j k) i js) ≡ at_column k js fs
skipped k [] front fs i l m = refl
skipped k (j ∷ js) front [] i l m = absurd (omega arith)
skipped k (j ∷ js) front (f ∷ fs) i l m =
    ⊎_elim
    (λ is. ap (field_at (front ++ f ∷ fs)) (cond-true _ _ _ is) ∙ in_the_middle front f fs i l ∙ sym (cond-true _ _ _ is))
    (λ isnt. ap (field_at (front ++ f ∷ fs)) (cond-false _ _ _ isnt)
    ∙ ap (λ gs. field_at gs (position_from (λ j. alike j k) (i + 1) js)) (sym (append_assoc front (f ∷ []) fs))
    ∙ skipped k js (front ++ f ∷ []) fs (i + 1) (length_push front f ∙ ap (λ n. n + 1) l) (omega arith)
    ∙ sym (cond-false _ _ _ isnt))
    (cases_Bool (alike j k))

under_is : (k : Column) (js : List Column) (fs : List Field) → length js ≡ length fs →
    under k js fs ≡ at_column k js fs
under_is k js fs m = ap (field_at fs) (position_from-zero (λ j. alike j k) js) ∙ skipped k js [] fs 0 refl m

pub under_picked : (f : Column → Field) (k : Column) (o : List Column) → 0 < occurs k o → at_column k o (map f o) ≡ f k
under_picked f k [] h = absurd (omega arith)
under_picked f k (j ∷ js) h =
    ⊎_elim
    (λ is. cond-true _ _ _ is ∙ ap f (alike_same j k is))
    (λ isnt. cond-false _ _ _ isnt ∙ under_picked f k js (rw (cond-false _ (1 + occurs k js) (occurs k js) isnt) at h))
    (cases_Bool (alike j k))

fields_are : (f : Column → Field) (o : List Column) (fs : List Field) → Uniq o → length o ≡ length fs →
    ((k : Column) → 0 < occurs k o → at_column k o fs ≡ f k) → fs ≡ map f o
fields_are f [] [] u l h = refl
fields_are f [] (c ∷ cs) u l h = absurd (omega arith)
fields_are f (j ∷ js) [] u l h = absurd (omega arith)
fields_are f (j ∷ js) (c ∷ cs) u l h =
    let here = here_more j js in
    let first : c ≡ f j = sym (cond-true (alike j j) c _ (alike_self j)) ∙ h j (omega arith) in
    let rest : cs ≡ map f js = fields_are f js cs u.1 (omega arith) (λ k more.
    ⊎_elim
    (λ is. let same : occurs j js ≡ occurs k js = ap (λ i. occurs i js) (alike_same j k is) in absurd (omega (arith, u.0)))
    (λ isnt. let there : occurs k (j ∷ js) ≡ occurs k js = cond-false _ _ _ isnt in
    sym (cond-false (alike j k) c _ isnt) ∙ h k (omega arith))
    (cases_Bool (alike j k))) in
    ap (λ x. x ∷ cs) first ∙ ap (λ xs. f j ∷ xs) rest

line_with_back : (x : Line) → line_with (field_of x Entry) (field_of x Candidate) (field_of x Other) (field_of x Choice) (field_of x Points) ≡ Some x
line_with_back (Own e c p) = refl
line_with_back (Pair r) = refl

-- a line's own fields, in the order of the columns, make the line
pub line_under_back : (o : List Column) (x : Line) → is_complete o ≡ true → line_under o (Some (map (field_of x) o)) ≡ Some x
line_under_back o x h =
    let fs = map (field_of x) o in
    let at : (k : Column) → under k o fs ≡ field_of x k = λ k. under_is k o fs (sym (length-map o (field_of x))) ∙ under_picked (field_of x) k o (let one = occurs_once o h k in omega arith) in
    ap (λ e. line_with e (under Candidate o fs) (under Other o fs) (under Choice o fs) (under Points o fs)) (at Entry)
    ∙ ap (λ c. line_with (field_of x Entry) c (under Other o fs) (under Choice o fs) (under Points o fs)) (at Candidate)
    ∙ ap (λ t. line_with (field_of x Entry) (field_of x Candidate) t (under Choice o fs) (under Points o fs)) (at Other)
    ∙ ap (λ t. line_with (field_of x Entry) (field_of x Candidate) (field_of x Other) t (under Points o fs)) (at Choice)
    ∙ ap (λ t. line_with (field_of x Entry) (field_of x Candidate) (field_of x Other) (field_of x Choice) t) (at Points)
    ∙ line_with_back x

record Parts (x : Line) (e c o h p : Field) : Type 0 where
  at_entry : e ≡ field_of x Entry
  at_candidate : c ≡ field_of x Candidate
  at_other : o ≡ field_of x Other
  at_choice : h ≡ field_of x Choice
  at_points : p ≡ field_of x Points

line_with_parts : (e c o h p : Field) (x : Line) → line_with e c o h p ≡ Some x → Parts x e c o h p
line_with_parts Dash c o h p x q = absurd (none q)
line_with_parts (Value e) Dash o h p x q = absurd (none q)
line_with_parts (Value e) (Value c) Dash Dash Dash x q = absurd (none q)
line_with_parts (Value e) (Value c) Dash Dash (Value p) x q =
    let same : Own e c p ≡ x = cc in
    subst (λ y. Parts y (Value e) (Value c) Dash Dash (Value p)) same (record { at_entry = refl; at_candidate = refl; at_other = refl; at_choice = refl; at_points = refl })
line_with_parts (Value e) (Value c) Dash (Value h) p x q = absurd (none q)
line_with_parts (Value e) (Value c) (Value o) Dash p x q = absurd (none q)
line_with_parts (Value e) (Value c) (Value o) (Value h) Dash x q = absurd (none q)
line_with_parts (Value e) (Value c) (Value o) (Value h) (Value p) x q =
    let same : Pair (record { entry = e; candidate = c; other = o; choice = h; points = p }) ≡ x = cc in
    subst (λ y. Parts y (Value e) (Value c) (Value o) (Value h) (Value p)) same (record { at_entry = refl; at_candidate = refl; at_other = refl; at_choice = refl; at_points = refl })

pub line_under_text : (o : List Column) (fs : List Field) (x : Line) → is_complete o ≡ true → length o ≡ length fs → line_under o (Some fs) ≡ Some x → fs ≡ map (field_of x) o
line_under_text o fs x h l q =
    let r = line_with_parts _ _ _ _ _ x q in
    let at : (k : Column) → under k o fs ≡ field_of x k = λ k. elim k as (λ k. under k o fs ≡ field_of x k) [ Entry ↦ r.at_entry | Candidate ↦ r.at_candidate | Other ↦ r.at_other | Choice ↦ r.at_choice | Points ↦ r.at_points ] in
    fields_are (field_of x) o fs (uniq_from o (λ k. let one = occurs_once o h k in omega arith)) l (λ k more. sym (under_is k o fs l) ∙ at k)
