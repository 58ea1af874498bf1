-- Pieces that are written are the pieces that are read, and the other way round.
use Rattle.std.proofs.Common.{◌≡◌, ℕ, false, eqb, List, [], ◌∷◌, ◌++◌, map, length, Option, Some, None, refl, sym, ap, subst, ◌∙◌, ⊎_elim, arith}
use Rattle.std.proofs.lemmas.Bool.{cond-true, cond-false, cases_Bool, eq-eqb, eqb-true}
use Rattle.std.proofs.lemmas.List.{length-map}
use Rattle.plan_text.specs.Columns.{both, each, five}
use Rattle.plan_text.specs.Fields.{onto_first, pieces}
use Rattle.plan_text.specs.Writings.{between, ended, Each}
use Rattle.plan_text.proofs.Cuts.{pieces_some}

-- no byte is the separator
abbrev pub Lacks : ℕ → List ℕ → Type 0
Lacks sep [] = Unit {0}
Lacks sep (b ∷ bs) = (eqb b sep ≡ false) × Lacks sep bs

abbrev pub AllLack : ℕ → List (List ℕ) → Type 0
AllLack sep [] = Unit {0}
AllLack sep (p ∷ ps) = Lacks sep p × AllLack sep ps

pub none : {B : Type 0} {x : B} → None ≡ Some x → ⊥
none h = cc

pieces_lone : (sep : ℕ) (bs : List ℕ) → Lacks sep bs → pieces sep bs ≡ bs ∷ []
pieces_lone sep [] h = refl
pieces_lone sep (b ∷ bs) h = cond-false _ _ _ h.0 ∙ ap (onto_first b) (pieces_lone sep bs h.1)

pieces_cut : (sep : ℕ) (bs rest : List ℕ) → Lacks sep bs →
    pieces sep (bs ++ sep ∷ rest) ≡ bs ∷ pieces sep rest
pieces_cut sep [] rest h = cond-true _ _ _ (eq-eqb sep sep refl)
pieces_cut sep (b ∷ bs) rest h = cond-false _ _ _ h.0 ∙ ap (onto_first b) (pieces_cut sep bs rest h.1)

pieces_between : (sep : ℕ) (p : List ℕ) (ps : List (List ℕ)) → AllLack sep (p ∷ ps) →
    pieces sep (between sep (p ∷ ps)) ≡ p ∷ ps
pieces_between sep p [] h = pieces_lone sep p h.0
pieces_between sep p (q ∷ ps) h = pieces_cut sep p _ h.0 ∙ ap (λ r. p ∷ r) (pieces_between sep q ps h.1)

pub pieces_ended : (ls : List (List ℕ)) → AllLack 10 ls → pieces 10 (ended ls) ≡ ls ++ [] ∷ []
pieces_ended [] h = refl
pieces_ended (l ∷ ls) h = pieces_cut 10 l _ h.0 ∙ ap (λ r. l ∷ r) (pieces_ended ls h.1)

-- a byte in front of the first piece is in front of the text
between_onto : (sep b : ℕ) (p : List ℕ) (ps : List (List ℕ)) →
    between sep ((b ∷ p) ∷ ps) ≡ b ∷ between sep (p ∷ ps)
between_onto sep b p [] = refl
between_onto sep b p (q ∷ ps) = refl

pub between_pieces : (sep : ℕ) (bs : List ℕ) → between sep (pieces sep bs) ≡ bs
between_pieces sep [] = refl
between_pieces sep (b ∷ bs) =
    let r = pieces_some sep bs in
    let rest : between sep (r.0 ∷ r.1) ≡ bs = ap (between sep) (sym r.2) ∙ between_pieces sep bs in
    ⊎_elim
    (λ is. ap (between sep) (cond-true _ _ _ is ∙ ap (λ ps. [] ∷ ps) r.2) ∙ ap (λ t. sep ∷ t) rest
    ∙ ap (λ x. x ∷ bs) (sym (eqb-true b sep is)))
    (λ isnt. ap (between sep) (cond-false _ _ _ isnt ∙ ap (onto_first b) r.2)
    ∙ between_onto sep b r.0 r.1 ∙ ap (λ t. b ∷ t) rest)
    (cases_Bool (eqb b sep))

-- pieces of which the last is empty are ended lines
pub between_ended : (ls : List (List ℕ)) → between 10 (ls ++ [] ∷ []) ≡ ended ls
between_ended [] = refl
between_ended (l ∷ []) = refl
between_ended (l ∷ m ∷ ls) = ap (λ r. l ++ 10 ∷ r) (between_ended (m ∷ ls))

-- f reads what g writes
each_written : {B : Type 0} (f : List ℕ → Option B) (g : B → List ℕ) (xs : List B) →
    Each (λ x. f (g x) ≡ Some x) xs → each f (map g xs) ≡ Some xs
each_written f g [] h = refl
each_written f g (x ∷ xs) h =
    ap (λ o. both o (each f (map g xs))) h.0 ∙ ap (both (Some x)) (each_written f g xs h.1)

both_parts : {B : Type 0} (a : Option B) (b : Option (List B)) (xs : List B) → both a b ≡ Some xs →
    (y : B) × (ys : List B) × (a ≡ Some y) × (b ≡ Some ys) × (xs ≡ y ∷ ys)
both_parts None b xs h = absurd (none h)
both_parts (Some y) None xs h = absurd (none h)
both_parts (Some y) (Some ys) xs h = (y, ys, refl, refl, cc)

each_text : {B : Type 0} (f : List ℕ → Option B) (g : B → List ℕ) (P : B → Type 0) →
    ((p : List ℕ) (x : B) → f p ≡ Some x → (p ≡ g x) × P x) →
    (ps : List (List ℕ)) (xs : List B) → each f ps ≡ Some xs → (ps ≡ map g xs) × Each P xs
each_text f g P back [] [] h = (refl, tt)
each_text f g P back [] (x ∷ xs) h = cc
each_text f g P back (p ∷ ps) xs h =
    let r = both_parts (f p) (each f ps) xs h in
    let one = back p r.0 r.2 in
    let more = each_text f g P back ps r.1 r.3 in
    subst (λ ys. (p ∷ ps ≡ map g ys) × Each P ys) (sym r.4)
    (ap (λ q. q ∷ ps) one.0 ∙ ap (λ qs. g r.0 ∷ qs) more.0, (one.1, more.1))

-- five pieces
five_pieces : (ps : List (List ℕ)) → length ps ≡ 5 → AllLack 32 ps → pieces 32 (between 32 ps) ≡ ps
five_pieces [] l h = absurd (omega arith)
five_pieces (p ∷ ps) l h = pieces_between 32 p ps h

pub five_written : {B : Type 0} (f : List ℕ → Option B) (g : B → List ℕ) (xs : List B) →
    length xs ≡ 5 → AllLack 32 (map g xs) → Each (λ x. f (g x) ≡ Some x) xs →
    five f (between 32 (map g xs)) ≡ Some xs
five_written f g xs l a h =
    let is = five_pieces (map g xs) (length-map xs g ∙ l) a in
    cond-true _ _ _ (eq-eqb _ 5 (ap length is ∙ length-map xs g ∙ l)) ∙ ap (each f) is ∙ each_written f g xs h

pub five_text : {B : Type 0} (f : List ℕ → Option B) (g : B → List ℕ) (P : B → Type 0) →
    ((p : List ℕ) (x : B) → f p ≡ Some x → (p ≡ g x) × P x) →
    (bs : List ℕ) (xs : List B) → five f bs ≡ Some xs →
    (bs ≡ between 32 (map g xs)) × (Each P xs × (length xs ≡ 5))
five_text f g P back bs xs h =
    ⊎_elim
    (λ is. let r = each_text f g P back (pieces 32 bs) xs (sym (cond-true _ _ _ is) ∙ h) in (
      sym (between_pieces 32 bs) ∙ ap (between 32) r.0,
      (r.1, sym (length-map xs g) ∙ ap length (sym r.0) ∙ eqb-true _ 5 is),
    ))
    (λ isnt. absurd (none (sym (cond-false _ _ _ isnt) ∙ h)))
    (cases_Bool (eqb (length (pieces 32 bs)) 5))
