-- What the laws of a scale say of joined lists. Since a penalty above the ceiling counts as the ceiling, none of this asks
-- for penalties up to the ceiling.
use Rattle.std.proofs.Common.{◌≡◌, ℕ, zero, suc, ◌<◌, ◌≤◌, ◌≢◌, List, [], ◌∷◌, ◌++◌, length, get_or, set, fold, sym, refl, ap, ◌∙◌, subst, ⊎_elim, arith}
use Rattle.std.specs.List.{swap}
use Rattle.std.specs.List.Sorted.{IsPermutation}
use Rattle.std.proofs.lemmas.List.{set-set, set_comm, set-get_or, get_or-set_same, get_or-set_other, length-set, get_or_default}
use Rattle.std.proofs.lemmas.List.Sorted.{IsPermutation-keeps}
use Rattle.std.proofs.lemmas.Bool.{cases_eq}
use Rattle.scale.specs.Ceilings.{highest, effective}
use Rattle.scale.specs.Laws.{Lawful}
use Rattle.scale.specs.Joins.{joined}

-- up to the highest, a ceiling is the one that counts
pub lawful_at : (c : ℕ) (join rest : ℕ → ℕ → ℕ) → c ≤ highest → Lawful (effective c) join rest → Lawful c join rest
lawful_at c join rest h law = let same : effective c ≡ c = omega arith in subst (λ (k : ℕ). Lawful k join rest) same law

module _ {c : ℕ} {join rest : ℕ → ℕ → ℕ} (law : Lawful c join rest) where
  pub zero_left : (a : ℕ) → a ≤ c → join 0 a ≡ a
  zero_left a h = law.commutative 0 a ∙ law.neutral a h

  -- joining more gives at least as much
  pub monotone_both : (a b d e : ℕ) → a ≤ b → d ≤ e → join a d ≤ join b e
  monotone_both a b d e h k = omega (arith, law.monotone a b d h, law.monotone d e b k, law.commutative d b, law.commutative e b)

  -- what is joined is at least each part
  pub left_at_most : (a b : ℕ) → a ≤ c → a ≤ join a b
  left_at_most a b h = omega (arith, monotone_both a a 0 b (omega arith) (omega arith), law.neutral a h)

  pub right_at_most : (a b : ℕ) → b ≤ c → b ≤ join a b
  right_at_most a b h = omega (arith, left_at_most b a h, law.commutative a b)

  -- the first two of three may change places
  pub front_swap : (a b d : ℕ) → join a (join b d) ≡ join b (join a d)
  front_swap a b d =
      let one = law.associative a b d in
      let two = law.associative b a d in
      let three = law.commutative a b in
      cc

  -- what a fold starts from may be joined to the fold in the end
  folded_start : (s t : ℕ) (xs : List ℕ) → fold join (join s t) xs ≡ join s (fold join t xs)
  folded_start s t [] = refl
  folded_start s t (x ∷ xs) = rw (law.associative s t x) (folded_start s (join t x) xs)

  folded_bounded : (s : ℕ) (xs : List ℕ) → s ≤ c → fold join s xs ≤ c
  folded_bounded s [] h = h
  folded_bounded s (x ∷ xs) h = folded_bounded (join s x) xs (law.bounded s x)

  pub joined_bounded : (xs : List ℕ) → joined join xs ≤ c
  joined_bounded xs = folded_bounded 0 xs (omega arith)

  -- a list is its first penalty joined to the others
  pub joined_cons : (x : ℕ) (xs : List ℕ) → joined join (x ∷ xs) ≡ join x (joined join xs)
  joined_cons x xs =
      let turned = ap (λ (a : ℕ). fold join a xs) (law.commutative 0 x) in
      turned ∙ folded_start x 0 xs

  -- a 0 in front may be left out
  pub joined_zero : (xs : List ℕ) → joined join (0 ∷ xs) ≡ joined join xs
  joined_zero xs = joined_cons 0 xs ∙ zero_left (joined join xs) (joined_bounded xs)

  -- two lists one after the other
  pub joined_append : (xs ys : List ℕ) → joined join (xs ++ ys) ≡ join (joined join xs) (joined join ys)
  joined_append [] ys = sym (zero_left (joined join ys) (joined_bounded ys))
  joined_append (x ∷ xs) ys =
      let one = joined_cons x (xs ++ ys) in
      let two = joined_cons x xs in
      let three = joined_append xs ys in
      let four = law.associative x (joined join xs) (joined join ys) in
      cc

  -- a list is the penalty at a place joined to the others, with 0 left in its place
  pub place_out : (xs : List ℕ) (i : ℕ) → joined join xs ≡ join (get_or xs i 0) (joined join (set xs i 0))
  place_out [] i = sym (zero_left 0 (omega arith))
  place_out (x ∷ xs) zero = joined_cons x xs ∙ ap (join x) (sym (joined_zero xs))
  place_out (x ∷ xs) (suc i) =
      let one = joined_cons x xs in
      let two = place_out xs i in
      let three = front_swap x (get_or xs i 0) (joined join (set xs i 0)) in
      let four = joined_cons x (set xs i 0) in
      cc

  -- with y written at a place, it is y joined to the others
  pub place_in : (xs : List ℕ) (i y : ℕ) → i < length xs → joined join (set xs i y) ≡ join y (joined join (set xs i 0))
  place_in xs i y h =
      let one = place_out (set xs i y) i in
      let two = set-set xs i y 0 in
      let three = get_or-set_same xs i y 0 h in
      cc

  -- the law of transfer: two places may be rewritten if they join to what they joined to
  pub transfer : (xs : List ℕ) (i j x y : ℕ) → i < length xs → j < length xs → i ≢ j →
      join x y ≡ join (get_or xs i 0) (get_or xs j 0) → joined join (set (set xs i x) j y) ≡ joined join xs
  transfer xs i j x y hi hj apart same =
      let others = joined join (set (set xs i 0) j 0) in
      let at_i = get_or xs i 0 in
      let at_j = get_or xs j 0 in
      let in_j = place_in (set xs i x) j y (simp length-set hj) in
      let turned = ap (joined join) (set_comm xs i j x 0 apart) in
      let in_i = place_in (set xs j 0) i x (simp length-set hi) in
      let back = ap (joined join) (set_comm xs i j 0 0 apart) in
      let out_i = place_out xs i in
      let out_j = place_out (set xs i 0) j in
      let there = get_or-set_other xs i j 0 0 (λ e. apart (sym e)) in
      let one = law.associative x y others in
      let two = law.associative at_i at_j others in
      let three = front_swap y x others in
      cc

  exchanged_same : (xs : List ℕ) (i j : ℕ) → i < length xs → j < length xs → joined join (swap xs i j) ≡ joined join xs
  exchanged_same [] i j hi hj = refl
  exchanged_same (d ∷ ys) i j hi hj =
      let xs = d ∷ ys in
      rw (get_or_default xs i d 0 hi, get_or_default xs j d 0 hj) (⊎_elim
      (λ (e : i ≡ j). rw e (ap (joined join) (set-set xs j (get_or xs j 0) (get_or xs j 0) ∙ set-get_or xs j 0)))
      (λ (apart : i ≡ j → ⊥). transfer xs i j (get_or xs j 0) (get_or xs i 0) hi hj apart (law.commutative (get_or xs j 0) (get_or xs i 0)))
      (cases_eq i j))

  -- the order of a list does not matter
  pub joined_shuffled : (xs ys : List ℕ) → IsPermutation xs ys → joined join ys ≡ joined join xs
  joined_shuffled xs ys s = IsPermutation-keeps xs (λ zs. joined join zs ≡ joined join xs) refl (λ l i j p q k. exchanged_same l i j p q ∙ k) ys s
