-- A text that is written reads back, and a text that is read is written so.
use Rattle.std.proofs.Common.{◌≡◌, ℕ, ◌+◌, ◌<◌, ◌≤◌, true, eqb, ltb, List, [], ◌∷◌, ◌++◌, map, length, Option, Some, None, Ok, Err, Result, refl, sym, ap, subst, ◌∙◌, ⊎_elim, arith}
use Rattle.std.proofs.lemmas.Bool.{cond-true, cond-false, cases_Bool, eqb-true, le-ltb}
use Rattle.std.proofs.lemmas.List.{length-map, nil_from_length}
use Rattle.plan_text.specs.declared.columns.Column.{Column}
use Rattle.plan_text.specs.declared.faults.TextFault.{TextFault}
use Rattle.plan_text.specs.declared.lines.Field.{Field}
use Rattle.plan_text.specs.declared.lines.Line.{Line}
use Rattle.plan_text.specs.Columns.{column, five, if_complete, is_complete, name, order_of}
use Rattle.plan_text.specs.Fields.{pieces}
use Rattle.plan_text.specs.Lines.{field, line_of, line_under}
use Rattle.plan_text.specs.Lists.{Listed, nothing, may_come, with_line}
use Rattle.plan_text.specs.Readings.{longest, line_read, then_read, lines_read, under_names, text_read, reading}
use Rattle.plan_text.specs.Writings.{between, text_of, field_of, written_line, written_names, written, IsOrder, Each, IsSmall, HasSmallValues}
use Rattle.plan_text.proofs.Pieces.{AllLack, none, pieces_ended, between_pieces, between_ended, five_written, five_text}
use Rattle.plan_text.proofs.Unders.{alike_same, occurs, occurs_once, line_under_back, line_under_text}
use Rattle.plan_text.specs.Columns.{alike}
use Rattle.plan_text.proofs.Written.{name_back, name_text, field_back, field_text, lacks_between, lacks_name, lacks_text, all_lack}

each_from : {B : Type 0} (P : B → Type 0) (xs : List B) → ((x : B) → P x) → Each P xs
each_from P [] h = tt
each_from P (x ∷ xs) h = (h x, each_from P xs h)

map_map : {A B : Type 0} (g : B → List ℕ) (f : A → B) (xs : List A) → map g (map f xs) ≡ map (λ x. g (f x)) xs
map_map g f [] = refl
map_map g f (x ∷ xs) = ap (λ r. g (f x) ∷ r) (map_map g f xs)

-- the line of names
order_back : (o : List Column) → IsOrder o → order_of (written_names o) ≡ Some o
order_back o h =
    ap if_complete (five_written column name o h.long (all_lack 32 name o (λ k. (lacks_name k).0)) (each_from _ o name_back))
    ∙ cond-true _ _ _ h.once

if_parts : (q : Option (List Column)) (o : List Column) → if_complete q ≡ Some o → (q ≡ Some o) × (is_complete o ≡ true)
if_parts None o h = absurd (none h)
if_parts (Some ks) o h =
    ⊎_elim
    (λ is. let e : Some ks ≡ Some o = sym (cond-true _ _ _ is) ∙ h in let same : ks ≡ o = cc in (e, ap is_complete (sym same) ∙ is))
    (λ isnt. absurd (none (sym (cond-false _ _ _ isnt) ∙ h)))
    (cases_Bool (is_complete ks))

order_text : (bs : List ℕ) (o : List Column) → order_of bs ≡ Some o → (bs ≡ written_names o) × IsOrder o
order_text bs o h =
    let r = if_parts (five column bs) o h in
    let t = five_text column name (λ _. Unit {0}) name_text bs o r.0 in
    (t.0, record { long = t.1.1; once = r.1 })

-- a line
line_back : (o : List Column) (x : Line) → IsOrder o → HasSmallValues x → line_of o (written_line o x) ≡ Some x
line_back o x h small =
    ap (λ ps. line_under o (five field (between 32 ps))) (sym (map_map text_of (field_of x) o))
    ∙ ap (line_under o) (five_written field text_of (map (field_of x) o) (length-map o (field_of x) ∙ h.long)
    (subst (AllLack 32) (sym (map_map text_of (field_of x) o)) (all_lack 32 (λ k. text_of (field_of x k)) o (λ k. lacks_text 32 (omega arith) (field_of x k) (small k))))
    (picked o))
    ∙ line_under_back o x h.once
  where
    picked : (ks : List Column) → Each (λ c. field (text_of c) ≡ Some c) (map (field_of x) ks)
    picked [] = tt
    picked (k ∷ ks) = (field_back (field_of x k) (small k), picked ks)

line_parts : (o : List Column) (q : Option (List Field)) (x : Line) → line_under o q ≡ Some x → (cs : List Field) × (q ≡ Some cs) × (line_under o (Some cs) ≡ Some x)
line_parts o None x h = absurd (none h)
line_parts o (Some cs) x h = (cs, refl, h)

small_at : (f : Column → Field) (ks : List Column) (k : Column) → 0 < occurs k ks → Each IsSmall (map f ks) → IsSmall (f k)
small_at f [] k h e = absurd (omega arith)
small_at f (j ∷ js) k h e =
    ⊎_elim
    (λ is. subst (λ i. IsSmall (f i)) (alike_same j k is) e.0)
    (λ isnt. small_at f js k (rw (cond-false _ (1 + occurs k js) (occurs k js) isnt) at h) e.1)
    (cases_Bool (alike j k))

line_text : (o : List Column) (bs : List ℕ) (x : Line) → IsOrder o → line_of o bs ≡ Some x → (bs ≡ written_line o x) × HasSmallValues x
line_text o bs x ord h =
    let r = line_parts o (five field bs) x h in
    let t = five_text field text_of IsSmall field_text bs r.0 r.1 in
    let is : r.0 ≡ map (field_of x) o = line_under_text o r.0 x ord.once (ord.long ∙ sym t.1.1) r.2 in (
      t.0 ∙ ap (λ cs. between 32 (map text_of cs)) is ∙ ap (between 32) (map_map text_of (field_of x) o),
      λ k. small_at (field_of x) o k (let one = occurs_once o ord.once k in omega arith) (subst (Each IsSmall) is t.1.0),
    )

-- the lines one by one, from line n on
abbrev pub taken : ℕ → Listed → List Line → Result Listed TextFault
taken n h [] = Ok h
taken n h (x ∷ xs) = then_read (line_read n h (Some x)) (λ t. taken (n + 1) t xs)

rows_cons : (o : List Column) (n : ℕ) (h : Listed) (l : List ℕ) (ls : List (List ℕ)) → lines_read o n h (l ∷ (ls ++ [] ∷ [])) ≡ then_read (line_read n h (line_of o l)) (λ t. lines_read o (n + 1) t (ls ++ [] ∷ []))
rows_cons o n h l [] = refl
rows_cons o n h l (m ∷ ls) = refl

then_same : (r : Result Listed TextFault) (f g : Listed → Result Listed TextFault) → ((t : Listed) → f t ≡ g t) → then_read r f ≡ then_read r g
then_same (Ok t) f g h = h t
then_same (Err e) f g h = refl

rows_back : (o : List Column) → IsOrder o → (xs : List Line) (n : ℕ) (h : Listed) → Each HasSmallValues xs → lines_read o n h (map (written_line o) xs ++ [] ∷ []) ≡ taken n h xs
rows_back o ord [] n h s = refl
rows_back o ord (x ∷ xs) n h s =
    rows_cons o n h (written_line o x) (map (written_line o) xs)
    ∙ ap (λ q. then_read (line_read n h q) (λ t. lines_read o (n + 1) t (map (written_line o) xs ++ [] ∷ []))) (line_back o x ord s.0)
    ∙ then_same (line_read n h (Some x)) _ _ (λ t. rows_back o ord xs (n + 1) t s.1)

lines_lack : (o : List Column) (xs : List Line) → Each HasSmallValues xs → AllLack 10 (map (written_line o) xs)
lines_lack o [] s = tt
lines_lack o (x ∷ xs) s = (lacks_between 10 32 _ refl (all_lack 10 (λ k. text_of (field_of x k)) o (λ k. lacks_text 10 (omega arith) (field_of x k) (s.0 k))), lines_lack o xs s.1)

text_cons : (l : List ℕ) (ls : List (List ℕ)) → text_read (l ∷ (ls ++ [] ∷ [])) ≡ under_names (order_of l) (ls ++ [] ∷ [])
text_cons l [] = refl
text_cons l (m ∷ ls) = refl

-- what is written of lines reads as the lines
pub reading_written : (o : List Column) (xs : List Line) → IsOrder o → Each HasSmallValues xs → length (written o xs) ≤ longest → reading (written o xs) ≡ taken 2 nothing xs
reading_written o xs ord s fits =
    cond-false _ _ _ (le-ltb longest _ fits)
    ∙ ap text_read (pieces_ended (written_names o ∷ map (written_line o) xs) (lacks_between 10 32 _ refl (all_lack 10 name o (λ k. (lacks_name k).1)), lines_lack o xs s))
    ∙ text_cons (written_names o) (map (written_line o) xs)
    ∙ ap (λ q. under_names q (map (written_line o) xs ++ [] ∷ [])) (order_back o ord)
    ∙ rows_back o ord xs 2 nothing s

-- the other way: a text that is read
pub err_ok : {f : TextFault} {t : Listed} → Err f ≡ Ok t → ⊥
err_ok h = cc

-- a line that was read may come, and what follows goes on from the lists with it
pub step_parts : (n : ℕ) (h : Listed) (x : Line) (next : Listed → Result Listed TextFault) (t : Listed) → then_read (line_read n h (Some x)) next ≡ Ok t → (may_come h x ≡ true) × (next (with_line h x) ≡ Ok t)
step_parts n h x next t q =
    ⊎_elim
    (λ is. (is, sym (ap (λ r. then_read r next) (cond-true _ _ _ is)) ∙ q))
    (λ isnt. absurd (err_ok (sym (ap (λ r. then_read r next) (cond-false _ _ _ isnt)) ∙ q)))
    (cases_Bool (may_come h x))

row_parts : (n : ℕ) (h : Listed) (l : Option Line) (next : Listed → Result Listed TextFault) (t : Listed) → then_read (line_read n h l) next ≡ Ok t → (x : Line) × (l ≡ Some x) × (may_come h x ≡ true) × (next (with_line h x) ≡ Ok t)
row_parts n h None next t q = absurd (err_ok q)
row_parts n h (Some x) next t q = let r = step_parts n h x next t q in (x, refl, r.0, r.1)

record Lined (o : List Column) (n : ℕ) (h : Listed) (ps : List (List ℕ)) (t : Listed) : Type 0 where
  lines : List Line
  texts : ps ≡ map (written_line o) lines ++ [] ∷ []
  small : Each HasSmallValues lines
  take : taken n h lines ≡ Ok t

rows_text : (o : List Column) → IsOrder o → (ps : List (List ℕ)) (n : ℕ) (h t : Listed) → lines_read o n h ps ≡ Ok t → Lined o n h ps t
rows_text o ord [] n h t q = absurd (err_ok q)
rows_text o ord (l ∷ []) n h t q =
    ⊎_elim
    (λ is. record { lines = []; texts = ap (λ x. x ∷ []) (nil_from_length l (eqb-true _ 0 is)); small = tt; take = sym (cond-true _ _ _ is) ∙ q })
    (λ isnt. absurd (err_ok (sym (cond-false _ _ _ isnt) ∙ q)))
    (cases_Bool (eqb (length l) 0))
rows_text o ord (l ∷ m ∷ ls) n h t q =
    let r = row_parts n h (line_of o l) (λ u. lines_read o (n + 1) u (m ∷ ls)) t q in
    let w = line_text o l r.0 ord r.1 in
    let more = rows_text o ord (m ∷ ls) (n + 1) (with_line h r.0) t r.3 in
    record {
      lines = r.0 ∷ more.lines;
      texts = ap (λ x. x ∷ m ∷ ls) w.0 ∙ ap (λ xs. written_line o r.0 ∷ xs) more.texts;
      small = (w.1, more.small);
      take = ap (λ a. then_read a (λ u. taken (n + 1) u more.lines)) (cond-true _ _ _ r.2) ∙ more.take;
    }

names_parts : (q : Option (List Column)) (ls : List (List ℕ)) (t : Listed) → under_names q ls ≡ Ok t → (o : List Column) × (q ≡ Some o) × (lines_read o 2 nothing ls ≡ Ok t)
names_parts None ls t h = absurd (err_ok h)
names_parts (Some o) ls t h = (o, refl, h)

-- the lines of a text that is accepted
pub record WrittenAs (bs : List ℕ) (t : Listed) : Type 0 where
  pub order : List Column
  pub ordered : IsOrder order
  pub lines : List Line
  pub small : Each HasSmallValues lines
  pub text : bs ≡ written order lines
  pub take : taken 2 nothing lines ≡ Ok t

text_text : (ps : List (List ℕ)) (t : Listed) → text_read ps ≡ Ok t → WrittenAs (between 10 ps) t
text_text [] t h = absurd (err_ok h)
text_text (l ∷ []) t h = absurd (err_ok h)
text_text (l ∷ m ∷ ls) t h =
    let r = names_parts (order_of l) (m ∷ ls) t h in
    let w = order_text l r.0 r.1 in
    let more = rows_text r.0 w.1 (m ∷ ls) 2 nothing t r.2 in
    record {
      order = r.0;
      ordered = w.1;
      lines = more.lines;
      small = more.small;
      text = ap (between 10) (ap (λ x. x ∷ m ∷ ls) w.0 ∙ ap (λ xs. written_names r.0 ∷ xs) more.texts) ∙ between_ended (written_names r.0 ∷ map (written_line r.0) more.lines);
      take = more.take;
    }

pub reading_text : (bs : List ℕ) (t : Listed) → reading bs ≡ Ok t → WrittenAs bs t
reading_text bs t h =
    ⊎_elim
    (λ is. absurd (err_ok (sym (cond-true _ _ _ is) ∙ h)))
    (λ isnt. subst (λ x. WrittenAs x t) (between_pieces 10 bs) (text_text (pieces 10 bs) t (sym (cond-false _ _ _ isnt) ∙ h)))
    (cases_Bool (ltb longest (length bs)))
