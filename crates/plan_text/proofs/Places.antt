-- The lines of lists: they lead from no lists to the lists, and lists that lines make have these lines.
use Rattle.std.proofs.Common.{◌≡◌, ℕ, zero, suc, ◌+◌, ◌<◌, ◌≤◌, true, false, eqb, ltb, List, [], ◌∷◌, ◌++◌, map, length, get_or, set, take, drop, append_assoc, Ok, refl, sym, ap, subst, ◌∙◌, ⊎_elim, add-zero, add-one, arith, length-append, length-drop}
use Rattle.std.proofs.lemmas.Bool.{cond-true, cond-false, cases_Bool, and_parts, and_from, eqb-true, eq-eqb, ne_eqb, lt-ltb}
use Rattle.std.proofs.lemmas.List.{append-nil, length-take-le, length_push, map_push, nil_from_length, take-append-drop}
use Rattle.plan.specs.declared.records.PairRecord.{PairRecord}
use Rattle.plan_text.specs.declared.lines.Line.{Line}
use Rattle.plan_text.specs.declared.lines.Line.TheVariants.{Own, Pair}
use Rattle.plan_text.specs.Lists.{Listed, nothing, is_next, counted, may_come, with_line}
use Rattle.plan_text.specs.Readings.{then_read}
use Rattle.plan_text.specs.Writings.{candidates, places, own_lines, lines_of, Each, IsFew, Sayable}
use Rattle.plan_text.proofs.Trips.{taken, step_parts}

-- an own penalty for each candidate
abbrev pub Paired : Listed → Type 0
Paired x = length (places 0 x.counts) ≡ length x.own

places_next : (e : ℕ) (ns : List ℕ) → places e (ns ++ 1 ∷ []) ≡ places e ns ++ (e + length ns, 0) ∷ []
places_next e [] = ap (λ k. (k, 0) ∷ []) (sym (add-zero e))
places_next e (n ∷ ns) =
    ap (λ r. candidates e n ++ r) (places_next (e + 1) ns)
    ∙ sym (append_assoc (candidates e n) (places (e + 1) ns) _)
    ∙ ap (λ k. (candidates e n ++ places (e + 1) ns) ++ (k, 0) ∷ []) (let same : e + 1 + length ns ≡ e + suc (length ns) = omega arith in same)

places_more : (e k c : ℕ) (ns : List ℕ) → k + 1 ≡ length ns → c ≡ get_or ns k 0 → places e (set ns k (c + 1)) ≡ places e ns ++ (e + k, c) ∷ []
places_more e k c [] l h = absurd (omega arith)
places_more e zero c (n ∷ []) l h =
    append-nil _ ∙ ap (candidates e) (add-one c) ∙ ap (λ m. candidates e m ++ (e, c) ∷ []) h ∙ ap (λ r. r ++ (e, c) ∷ []) (sym (append-nil (candidates e n)))
    ∙ ap (λ i. (candidates e n ++ []) ++ (i, c) ∷ []) (sym (add-zero e))
places_more e zero c (n ∷ m ∷ ns) l h = absurd (omega arith)
places_more e (suc k) c (n ∷ ns) l h =
    ap (λ r. candidates e n ++ r) (places_more (e + 1) k c ns (omega arith) h)
    ∙ sym (append_assoc (candidates e n) (places (e + 1) ns) _)
    ∙ ap (λ i. (candidates e n ++ places (e + 1) ns) ++ (i, c) ∷ []) (let same : e + 1 + k ≡ e + suc k = omega arith in same)

own_push : (qs : List (ℕ × ℕ)) (ps : List ℕ) (q : ℕ × ℕ) (p : ℕ) → length qs ≡ length ps → own_lines (qs ++ q ∷ []) (ps ++ p ∷ []) ≡ own_lines qs ps ++ Own q.0 q.1 p ∷ []
own_push [] [] q p l = refl
own_push [] (r ∷ ps) q p l = absurd (omega arith)
own_push (r ∷ qs) [] q p l = absurd (omega arith)
own_push (r ∷ qs) (s ∷ ps) q p l = ap (λ x. Own r.0 r.1 s ∷ x) (own_push qs ps q p (omega arith))

-- the place of an own line that comes next
next_place : (ns : List ℕ) (e c : ℕ) → is_next ns e c ≡ true → places 0 (counted ns e c) ≡ places 0 ns ++ (e, c) ∷ []
next_place ns e c h =
    let t = (and_parts (ltb c 8) _ (and_parts (ltb e 16) _ h).1).1 in
    ⊎_elim
    (λ is.
    let at : 0 + length ns ≡ e = let q = eqb-true e (length ns) (sym (cond-true _ _ _ is) ∙ t) in omega arith in
    ap (places 0) (cond-true _ _ _ is) ∙ places_next 0 ns ∙ ap (λ i. places 0 ns ++ (i, 0) ∷ []) at ∙ ap (λ i. places 0 ns ++ (e, i) ∷ []) (sym (eqb-true c 0 is)))
    (λ isnt.
    let q = and_parts (eqb (e + 1) (length ns)) (eqb c (get_or ns e 0)) (sym (cond-false _ _ _ isnt) ∙ t) in
    ap (places 0) (cond-false _ _ _ isnt) ∙ places_more 0 e c ns (eqb-true (e + 1) _ q.0) (eqb-true c _ q.1) ∙ ap (λ i. places 0 ns ++ (i, c) ∷ []) (let z : 0 + e ≡ e = omega arith in z))
    (cases_Bool (eqb c 0))

added_lines : (h : Listed) (x : Line) → Paired h → may_come h x ≡ true → (lines_of (with_line h x) ≡ lines_of h ++ x ∷ []) × Paired (with_line h x)
added_lines h (Own e c p) pd q =
    let r = and_parts (eqb (length h.pairs) 0) (is_next h.counts e c) q in
    let empty : h.pairs ≡ [] = nil_from_length h.pairs (eqb-true _ 0 r.0) in
    let place = next_place h.counts e c r.1 in (
      ap (λ ps. own_lines ps (h.own ++ p ∷ []) ++ map Pair h.pairs) place
          ∙ ap (λ xs. xs ++ map Pair h.pairs) (own_push (places 0 h.counts) h.own (e, c) p pd)
          ∙ ap (λ rs. (own_lines (places 0 h.counts) h.own ++ Own e c p ∷ []) ++ map Pair rs) empty
          ∙ append-nil _
          ∙ ap (λ xs. xs ++ Own e c p ∷ []) (sym (append-nil (own_lines (places 0 h.counts) h.own)))
          ∙ ap (λ rs. (own_lines (places 0 h.counts) h.own ++ map Pair rs) ++ Own e c p ∷ []) (sym empty),
      ap length place ∙ length_push (places 0 h.counts) (e, c) ∙ ap (λ n. n + 1) pd ∙ sym (length_push h.own p),
    )
added_lines h (Pair r) pd q = (
  ap (λ xs. own_lines (places 0 h.counts) h.own ++ xs) (map_push Pair h.pairs r)
      ∙ sym (append_assoc (own_lines (places 0 h.counts) h.own) (map Pair h.pairs) (Pair r ∷ [])),
  pd,
)

taken_lines : (xs : List Line) (n : ℕ) (h t : Listed) → Paired h → taken n h xs ≡ Ok t → lines_of t ≡ lines_of h ++ xs
taken_lines [] n h t pd q = let same : h ≡ t = cc in ap lines_of (sym same) ∙ sym (append-nil (lines_of h))
taken_lines (x ∷ xs) n h t pd q =
    let r = step_parts n h x (λ u. taken (n + 1) u xs) t q in
    let a = added_lines h x pd r.0 in
    taken_lines xs (n + 1) (with_line h x) t a.1 r.1 ∙ ap (λ l. l ++ xs) a.0 ∙ append_assoc (lines_of h) (x ∷ []) xs

-- lists that lines make have these lines
pub lines_are : (xs : List Line) (t : Listed) → taken 2 nothing xs ≡ Ok t → lines_of t ≡ xs
lines_are xs t q = taken_lines xs 2 nothing t refl q

-- the lines lead from the lists h to the lists t
abbrev Leads : Listed → List Line → Listed → Type 0
Leads h [] t = h ≡ t
Leads h (x ∷ xs) t = (may_come h x ≡ true) × Leads (with_line h x) xs t

leads_taken : (xs : List Line) (n : ℕ) (h t : Listed) → Leads h xs t → taken n h xs ≡ Ok t
leads_taken [] n h t l = ap Ok l
leads_taken (x ∷ xs) n h t l =
    ap (λ a. then_read a (λ u. taken (n + 1) u xs)) (cond-true _ _ _ l.0) ∙ leads_taken xs (n + 1) (with_line h x) t l.1

leads_append : (xs ys : List Line) (h u t : Listed) → Leads h xs u → Leads u ys t → Leads h (xs ++ ys) t
leads_append [] ys h u t l m = subst (λ v. Leads v ys t) (sym l) m
leads_append (x ∷ xs) ys h u t l m = (l.0, leads_append xs ys (with_line h x) u t l.1 m)

abbrev lists : List ℕ → List ℕ → List PairRecord → Listed
lists ns ps rs = record { counts = ns; own = ps; pairs = rs }

leads_pairs : (ns ps : List ℕ) (done rs : List PairRecord) → Leads (lists ns ps done) (map Pair rs) (lists ns ps (done ++ rs))
leads_pairs ns ps done [] = ap (lists ns ps) (sym (append-nil done))
leads_pairs ns ps done (r ∷ rs) = (
  refl,
  subst (λ x. Leads (lists ns ps (done ++ r ∷ [])) (map Pair rs) (lists ns ps x)) (append_assoc done (r ∷ []) rs) (leads_pairs ns ps (done ++ r ∷ []) rs),
)

-- m candidates of the entry e from c on
abbrev pub upward : ℕ → ℕ → ℕ → List (ℕ × ℕ)
upward e c zero = []
upward e c (suc m) = (e, c) ∷ upward e (c + 1) m

upward_push : (e c m : ℕ) → upward e c (suc m) ≡ upward e c m ++ (e, c + m) ∷ []
upward_push e c zero = ap (λ i. (e, i) ∷ []) (sym (add-zero c))
upward_push e c (suc m) = ap (λ r. (e, c) ∷ r) (upward_push e (c + 1) m ∙ ap (λ i. upward e (c + 1) m ++ (e, i) ∷ []) (let same : c + 1 + m ≡ c + suc m = omega arith in same))

pub candidates_up : (e m : ℕ) → candidates e m ≡ upward e 0 m
candidates_up e zero = refl
candidates_up e (suc m) = ap (λ r. r ++ (e, m) ∷ []) (candidates_up e m) ∙ ap (λ i. upward e 0 m ++ (e, i) ∷ []) (let same : m ≡ 0 + m = omega arith in same) ∙ sym (upward_push e 0 m)

pub length_upward : (e c m : ℕ) → length (upward e c m) ≡ m
length_upward e c zero = refl
length_upward e c (suc m) = ap suc (length_upward e (c + 1) m)

-- the last count of a list, read and written
last_of : (done : List ℕ) (k e : ℕ) → length done ≡ e → get_or (done ++ k ∷ []) e 0 ≡ k
last_of [] k e l = ap (λ i. get_or (k ∷ []) i 0) (sym l)
last_of (n ∷ done) k e l = ap (λ i. get_or (n ∷ (done ++ k ∷ [])) i 0) (sym l) ∙ last_of done k (length done) refl

last_set : (done : List ℕ) (k v e : ℕ) → length done ≡ e → set (done ++ k ∷ []) e v ≡ done ++ v ∷ []
last_set [] k v e l = ap (λ i. set (k ∷ []) i v) (sym l)
last_set (n ∷ done) k v e l = ap (λ i. set (n ∷ (done ++ k ∷ [])) i v) (sym l) ∙ ap (λ r. n ∷ r) (last_set done k v (length done) refl)

-- one own line more: the first of an entry, or a later one
first_comes : (done ps : List ℕ) (e p : ℕ) → length done ≡ e → e < 16 → may_come (lists done ps []) (Own e 0 p) ≡ true
first_comes done ps e p l b = and_from (ltb e 16) _ (lt-ltb e 16 b) (eq-eqb e _ (sym l))

more_comes : (done ps : List ℕ) (e k p : ℕ) → length done ≡ e → e < 16 → 1 ≤ k → k < 8 →
    (may_come (lists (done ++ k ∷ []) ps []) (Own e k p) ≡ true)
    × (with_line (lists (done ++ k ∷ []) ps []) (Own e k p) ≡ lists (done ++ (k + 1) ∷ []) (ps ++ p ∷ []) [])
more_comes done ps e k p l b some few =
    let ns : List ℕ = done ++ k ∷ [] in
    let later : eqb k 0 ≡ false = ne_eqb k 0 (λ z. omega arith) in
    let last : eqb (e + 1) (length ns) ≡ true = eq-eqb (e + 1) _ (ap (λ n. n + 1) (sym l) ∙ sym (length_push done k)) in
    let count : eqb k (get_or ns e 0) ≡ true = eq-eqb k _ (sym (last_of done k e l)) in
    let new : counted ns e k ≡ done ++ (k + 1) ∷ [] = cond-false _ _ _ later ∙ last_set done k (k + 1) e l in (
      and_from (ltb e 16) _ (lt-ltb e 16 b) (and_from (ltb k 8) _ (lt-ltb k 8 few)
          (cond-false _ _ _ later ∙ and_from (eqb (e + 1) (length ns)) (eqb k (get_or ns e 0)) last count)),
      ap (λ x. lists x (ps ++ p ∷ []) []) new,
    )

leads_run : (m : ℕ) (done ps pts : List ℕ) (e k : ℕ) → length done ≡ e → e < 16 → 1 ≤ k → k + m ≤ 8 → length pts ≡ m →
    Leads (lists (done ++ k ∷ []) ps []) (own_lines (upward e k m) pts) (lists (done ++ (k + m) ∷ []) (ps ++ pts) [])
leads_run zero done ps pts e k l b some few len =
    ap (λ x. lists (done ++ x ∷ []) ps []) (sym (add-zero k)) ∙ ap (λ x. lists (done ++ (k + 0) ∷ []) x []) (sym (append-nil ps) ∙ ap (λ x. ps ++ x) (sym (nil_from_length pts len)))
leads_run (suc m) done ps [] e k l b some few len = absurd (omega arith)
leads_run (suc m) done ps (p ∷ pts) e k l b some few len =
    let end : k + 1 + m ≡ k + suc m = omega arith in
    let rest = leads_run m done (ps ++ p ∷ []) pts e (k + 1) l b (omega arith) (omega arith) (omega arith) in
    let one = more_comes done ps e k p l b some (omega arith) in (
      one.0,
      subst (λ s. Leads s (own_lines (upward e (k + 1) m) pts) (lists (done ++ (k + suc m) ∷ []) (ps ++ p ∷ pts) [])) (sym one.1)
          (subst (λ x. Leads (lists (done ++ (k + 1) ∷ []) (ps ++ p ∷ []) []) (own_lines (upward e (k + 1) m) pts) (lists (done ++ (k + suc m) ∷ []) x [])) (append_assoc ps (p ∷ []) pts)
          (subst (λ i. Leads (lists (done ++ (k + 1) ∷ []) (ps ++ p ∷ []) []) (own_lines (upward e (k + 1) m) pts) (lists (done ++ i ∷ []) ((ps ++ p ∷ []) ++ pts) [])) end rest)),
    )

leads_entry : (n : ℕ) (done ps pts : List ℕ) (e : ℕ) → length done ≡ e → e < 16 → IsFew n → length pts ≡ n →
    Leads (lists done ps []) (own_lines (candidates e n) pts) (lists (done ++ n ∷ []) (ps ++ pts) [])
leads_entry zero done ps pts e l b few len = absurd (omega (arith, few.0))
leads_entry (suc m) done ps [] e l b few len = absurd (omega arith)
leads_entry (suc m) done ps (p ∷ pts) e l b few len =
    subst (λ qs. Leads (lists done ps []) (own_lines qs (p ∷ pts)) (lists (done ++ suc m ∷ []) (ps ++ p ∷ pts) [])) (sym (candidates_up e (suc m)))
    (let end : 1 + m ≡ suc m = omega arith in
    let rest = leads_run m done (ps ++ p ∷ []) pts e 1 l b (omega arith) (omega (arith, few.1)) (omega arith) in (
      first_comes done ps e p l b,
      subst (λ x. Leads (lists (done ++ 1 ∷ []) (ps ++ p ∷ []) []) (own_lines (upward e 1 m) pts) (lists (done ++ suc m ∷ []) x [])) (append_assoc ps (p ∷ []) pts)
          (subst (λ i. Leads (lists (done ++ 1 ∷ []) (ps ++ p ∷ []) []) (own_lines (upward e 1 m) pts) (lists (done ++ i ∷ []) ((ps ++ p ∷ []) ++ pts) [])) end rest),
    ))

own_append : (qs rs : List (ℕ × ℕ)) (ps us : List ℕ) → length qs ≡ length ps → own_lines (qs ++ rs) (ps ++ us) ≡ own_lines qs ps ++ own_lines rs us
own_append [] rs [] us l = refl
own_append [] rs (p ∷ ps) us l = absurd (omega arith)
own_append (q ∷ qs) rs [] us l = absurd (omega arith)
own_append (q ∷ qs) rs (p ∷ ps) us l = ap (λ r. Own q.0 q.1 p ∷ r) (own_append qs rs ps us (omega arith))

leads_own : (ns done ps pts : List ℕ) (e : ℕ) → length done ≡ e → e + length ns ≤ 16 → Each IsFew ns → length (places e ns) ≡ length pts →
    Leads (lists done ps []) (own_lines (places e ns) pts) (lists (done ++ ns) (ps ++ pts) [])
leads_own [] done ps pts e l b few len =
    ap (λ x. lists x ps []) (sym (append-nil done)) ∙ ap (λ x. lists (done ++ []) x []) (sym (append-nil ps) ∙ ap (λ x. ps ++ x) (sym (nil_from_length pts (sym len))))
leads_own (n ∷ ns) done ps pts e l b few len =
    let long : length (candidates e n) ≡ n = ap length (candidates_up e n) ∙ length_upward e 0 n in
    let whole : length (candidates e n ++ places (e + 1) ns) ≡ length (candidates e n) + length (places (e + 1) ns) = length-append (candidates e n) (places (e + 1) ns) in
    let all : length (candidates e n ++ places (e + 1) ns) ≡ length pts = len in
    let front : List ℕ = take n pts in
    let back : List ℕ = drop n pts in
    let n_front : length front ≡ n = length-take-le n pts (omega arith) in
    let n_back : length back ≡ length (places (e + 1) ns) = length-drop n pts ∙ omega arith in
    let one = leads_entry n done ps front e l (omega arith) few.0 n_front in
    let more = leads_own ns (done ++ n ∷ []) (ps ++ front) back (e + 1) (length_push done n ∙ ap (λ i. i + 1) l) (omega arith) few.1 (sym n_back) in
    let end : lists ((done ++ n ∷ []) ++ ns) ((ps ++ front) ++ back) [] ≡ lists (done ++ n ∷ ns) (ps ++ pts) [] =
    ap (λ x. lists x ((ps ++ front) ++ back) []) (append_assoc done (n ∷ []) ns) ∙ ap (λ x. lists (done ++ n ∷ ns) x []) (append_assoc ps front back ∙ ap (λ x. ps ++ x) (take-append-drop n pts)) in
    let path = leads_append (own_lines (candidates e n) front) (own_lines (places (e + 1) ns) back) (lists done ps []) _ _ one more in
    let lines : own_lines (candidates e n) front ++ own_lines (places (e + 1) ns) back ≡ own_lines (candidates e n ++ places (e + 1) ns) pts =
    sym (own_append (candidates e n) (places (e + 1) ns) front back (long ∙ sym n_front)) ∙ ap (own_lines (candidates e n ++ places (e + 1) ns)) (take-append-drop n pts) in
    subst (λ xs. Leads (lists done ps []) xs (lists (done ++ n ∷ ns) (ps ++ pts) [])) lines
    (subst (λ t. Leads (lists done ps []) (own_lines (candidates e n) front ++ own_lines (places (e + 1) ns) back) t) end path)

-- the lines of lists that a text can say make these lists
pub sayable_taken : (t : Listed) (n : ℕ) → Sayable t → taken n nothing (lines_of t) ≡ Ok t
sayable_taken t n b =
    leads_taken (lines_of t) n nothing t
    (leads_append (own_lines (places 0 t.counts) t.own) (map Pair t.pairs) nothing (lists t.counts t.own []) t
    (leads_own t.counts [] [] t.own 0 refl (omega (arith, b.entries)) b.few b.own_for_each)
    (leads_pairs t.counts t.own [] t.pairs))
