-- Rows written one after another are the text of lists.
use Rattle.std.proofs.Common.{◌≡◌, ℕ, zero, suc, ◌+◌, ◌≤◌, min, List, [], ◌∷◌, ◌++◌, map, length, take, drop, append_assoc, refl, sym, ap, ◌∙◌, ⊎_elim, arith}
use Rattle.std.proofs.lemmas.Bool.{cases_lt}
use Rattle.std.proofs.lemmas.List.{append-nil, map-append, length-take-le, take_all, drop_all}
use Rattle.plan.specs.declared.records.PairRecord.{PairRecord}
use Rattle.plan_text.specs.declared.columns.Column.{Column}
use Rattle.plan_text.specs.declared.lines.Line.{Line}
use Rattle.plan_text.specs.declared.lines.Line.TheVariants.{Own, Pair}
use Rattle.plan_text.specs.declared.writing.Row.TheVariants.{Names, Of}
use Rattle.plan_text.specs.Lists.{Listed}
use Rattle.plan_text.specs.Rows.{under_column, spaced, row_text, entry_texts, own_texts, pair_texts}
use Rattle.plan_text.specs.Writings.{between, ended, candidates, places, own_lines, lines_of, text_of_lists, written_line, written_names}
use Rattle.plan_text.proofs.Places.{upward, candidates_up, length_upward}

spaced_between : (f : Column → List ℕ) (k : Column) (ks : List Column) →
    f k ++ spaced f ks ≡ between 32 (map f (k ∷ ks))
spaced_between f k [] = append-nil (f k)
spaced_between f k (j ∷ ks) = ap (λ t. f k ++ 32 ∷ t) (spaced_between f j ks)

row_ended : (f : Column → List ℕ) (order : List Column) →
    row_text f order ≡ between 32 (map f order) ++ 10 ∷ []
row_ended f [] = refl
row_ended f (k ∷ ks) = ap (λ t. t ++ 10 ∷ []) (spaced_between f k ks)

-- a line in front
line_first : (l : List ℕ) (ls : List (List ℕ)) (t : List ℕ) → t ≡ l ++ 10 ∷ [] →
    t ++ ended ls ≡ ended (l ∷ ls)
line_first l ls t is = ap (λ x. x ++ ended ls) is ∙ append_assoc l (10 ∷ []) (ended ls)

ended_append : (xs ys : List (List ℕ)) → ended (xs ++ ys) ≡ ended xs ++ ended ys
ended_append [] ys = refl
ended_append (x ∷ xs) ys =
    ap (λ t. x ++ 10 ∷ t) (ended_append xs ys) ∙ sym (append_assoc x (10 ∷ ended xs) (ended ys))

no_own : (qs : List (ℕ × ℕ)) → own_lines qs [] ≡ []
no_own [] = refl
no_own (q ∷ qs) = refl

-- the first places take the first penalties, and the others the rest
own_rest : (qs rs : List (ℕ × ℕ)) (ps : List ℕ) →
    own_lines (qs ++ rs) ps ≡ own_lines qs ps ++ own_lines rs (drop (length qs) ps)
own_rest [] rs ps = refl
own_rest (q ∷ qs) rs [] = sym (no_own rs)
own_rest (q ∷ qs) rs (p ∷ ps) = ap (λ r. Own q.0 q.1 p ∷ r) (own_rest qs rs ps)

own_take : (qs : List (ℕ × ℕ)) (ps : List ℕ) → own_lines qs (take (length qs) ps) ≡ own_lines qs ps
own_take [] ps = refl
own_take (q ∷ qs) [] = refl
own_take (q ∷ qs) (p ∷ ps) = ap (λ r. Own q.0 q.1 p ∷ r) (own_take qs ps)

own_split : (qs rs : List (ℕ × ℕ)) (ps : List ℕ) (k : ℕ) → k ≡ min (length ps) (length qs) →
    own_lines (qs ++ rs) ps ≡ own_lines qs (take k ps) ++ own_lines rs (drop k ps)
own_split qs rs ps k is =
    ⊎_elim
    (λ few.
    let all : length ps ≤ k = omega arith in
    own_rest qs rs ps
    ∙ ap (λ t. own_lines qs t ++ own_lines rs (drop (length qs) ps)) (sym (take_all k ps all))
    ∙ ap (λ t. own_lines qs (take k ps) ++ own_lines rs t) (drop_all (length qs) ps (omega arith) ∙ sym (drop_all k ps all)))
    (λ many.
    let same : length qs ≡ k = omega arith in
    own_rest qs rs ps ∙ ap (λ t. t ++ own_lines rs (drop (length qs) ps)) (sym (own_take qs ps))
    ∙ ap (λ i. own_lines qs (take i ps) ++ own_lines rs (drop i ps)) same)
    (cases_lt (length ps) (length qs))

module _ (order : List Column) where
  abbrev lines_text : List Line → List ℕ
  lines_text xs = ended (map (written_line order) xs)

  lines_append : (xs ys : List Line) → lines_text (xs ++ ys) ≡ lines_text xs ++ lines_text ys
  lines_append xs ys =
      ap ended (map-append (written_line order) xs ys) ∙ ended_append (map (written_line order) xs) (map (written_line order) ys)

  pairs_ended : (rs : List PairRecord) → pair_texts order rs ≡ lines_text (map Pair rs)
  pairs_ended [] = refl
  pairs_ended (r ∷ rs) =
      ap (λ t. row_text (under_column (Of (Pair r))) order ++ t) (pairs_ended rs)
      ∙ line_first (written_line order (Pair r)) (map (written_line order) (map Pair rs)) _ (row_ended (under_column (Of (Pair r))) order)

  entry_ended : (e c m : ℕ) (ps : List ℕ) → length ps ≤ m →
      entry_texts order e c ps ≡ lines_text (own_lines (upward e c m) ps)
  entry_ended e c m [] l = sym (ap lines_text (no_own (upward e c m)))
  entry_ended e c zero (p ∷ ps) l = absurd (omega arith)
  entry_ended e c (suc m) (p ∷ ps) l =
      ap (λ t. row_text (under_column (Of (Own e c p))) order ++ t) (entry_ended e (c + 1) m ps (omega arith))
      ∙ line_first (written_line order (Own e c p)) (map (written_line order) (own_lines (upward e (c + 1) m) ps)) _
      (row_ended (under_column (Of (Own e c p))) order)

  own_ended : (e : ℕ) (ns ps : List ℕ) → own_texts order e ns ps ≡ lines_text (own_lines (places e ns) ps)
  own_ended e [] ps = refl
  own_ended e (n ∷ ns) ps =
      let k = min (length ps) n in
      let few : length (take k ps) ≤ n = omega (arith, length-take-le k ps (omega arith)) in
      let long : length (candidates e n) ≡ n = ap length (candidates_up e n) ∙ length_upward e 0 n in
      ap (λ t. t ++ own_texts order (e + 1) ns (drop k ps)) (entry_ended e 0 n (take k ps) few ∙ ap (λ qs. lines_text (own_lines qs (take k ps))) (sym (candidates_up e n)))
      ∙ ap (λ t. lines_text (own_lines (candidates e n) (take k ps)) ++ t) (own_ended (e + 1) ns (drop k ps))
      ∙ sym (lines_append (own_lines (candidates e n) (take k ps)) (own_lines (places (e + 1) ns) (drop k ps)))
      ∙ ap lines_text (sym (own_split (candidates e n) (places (e + 1) ns) ps k (ap (min (length ps)) (sym long))))

  -- the names, the own lines and the pair lines are the text
  pub rows_are_text : (x : Listed) →
      (row_text (under_column Names) order ++ own_texts order 0 x.counts x.own) ++ pair_texts order x.pairs
      ≡ text_of_lists order x
  rows_are_text x =
      append_assoc (row_text (under_column Names) order) (own_texts order 0 x.counts x.own) (pair_texts order x.pairs)
      ∙ ap (λ t. row_text (under_column Names) order ++ t)
      (ap (λ t. t ++ pair_texts order x.pairs) (own_ended 0 x.counts x.own)
      ∙ ap (λ t. lines_text (own_lines (places 0 x.counts) x.own) ++ t) (pairs_ended x.pairs)
      ∙ sym (lines_append (own_lines (places 0 x.counts) x.own) (map Pair x.pairs)))
      ∙ line_first (written_names order) (map (written_line order) (lines_of x)) _ (row_ended (under_column Names) order)
