-- Joins of f 0, f 1, .., f (n - 1).
use Rattle.std.proofs.Common.{◌≡◌, ℕ, zero, suc, ◌<◌, ◌≤◌, ◌≢◌, [], ◌∷◌, ◌++◌, map, refl, ap, ◌∙◌, ⊎_elim, add-one, arith}
use Rattle.std.specs.List.{range_with_len}
use Rattle.std.proofs.lemmas.List.FromFn.{map-range_with_len_more}
use Rattle.std.proofs.lemmas.List.Sums.{fold_push}
use Rattle.std.proofs.lemmas.Bool.{cases_eq}
use Rattle.scale.specs.Joins.{joined, joined_over}
use Rattle.scale.specs.Laws.{Lawful}
use Rattle.scale.proofs.JoinedLists.{zero_left, left_at_most, right_at_most, joined_bounded}

-- one more at the end
pub over_more : (join : ℕ → ℕ → ℕ) (n : ℕ) (f : ℕ → ℕ) → joined_over join (suc n) f ≡ join (joined_over join n f) (f n)
over_more join n f =
    let more : map f (range_with_len 0 (suc n)) ≡ map f (range_with_len 0 n) ++ f n ∷ [] = rw add-one at (map-range_with_len_more f 0 n n (omega arith)) in
    ap (joined join) more ∙ fold_push join 0 (map f (range_with_len 0 n)) (f n)

-- what agrees at each place joins to the same
pub over_same : (join : ℕ → ℕ → ℕ) (n : ℕ) (f g : ℕ → ℕ) → ((i : ℕ) → i < n → f i ≡ g i) → joined_over join n f ≡ joined_over join n g
over_same join zero f g h = refl
over_same join (suc n) f g h =
    let one = over_more join n f in
    let two = over_more join n g in
    let rec = over_same join n f g (λ i l. h i (omega arith)) in
    let last = h n (omega arith) in
    cc

module _ {c : ℕ} {join rest : ℕ → ℕ → ℕ} (law : Lawful c join rest) where
  -- zeros join to 0
  pub over_zero : (n : ℕ) (f : ℕ → ℕ) → ((i : ℕ) → i < n → f i ≡ 0) → joined_over join n f ≡ 0
  over_zero zero f h = refl
  over_zero (suc n) f h =
      let one = over_more join n f in
      let rec = over_zero n f (λ i l. h i (omega arith)) in
      let last = h n (omega arith) in
      let none = zero_left law 0 (omega arith) in
      cc

  -- what is joined to one place is joined to the whole
  pub over_at : (n k a : ℕ) (f g : ℕ → ℕ) → k < n → ((i : ℕ) → i < n → i ≢ k → f i ≡ g i) → join (f k) a ≡ g k → join (joined_over join n f) a ≡ joined_over join n g
  over_at zero k a f g l h e = absurd (omega arith)
  over_at (suc n) k a f g l h e =
      let one = over_more join n f in
      let two = over_more join n g in
      ⊎_elim
      (λ (q : n ≡ k).
      let front = over_same join n f g (λ i m. h i (omega arith) (λ z. omega arith)) in
      let here = ap f q in
      let there = ap g q in
      let grouped = law.associative (joined_over join n f) (f n) a in
      cc)
      (λ (q : n ≡ k → ⊥).
      let low : k < n = grind arith in
      let rec = over_at n k a f g low (λ i m. h i (omega arith)) e in
      let last = h n (omega arith) q in
      let g1 = law.associative (joined_over join n f) (f n) a in
      let g2 = law.commutative (f n) a in
      let g3 = law.associative (joined_over join n f) a (f n) in
      cc)
      (cases_eq n k)

  -- a place is at most the whole
  pub over_at_most : (n k : ℕ) (f : ℕ → ℕ) → k < n → f k ≤ c → f k ≤ joined_over join n f
  over_at_most zero k f l h = absurd (omega arith)
  over_at_most (suc n) k f l h =
      let more = over_more join n f in
      ⊎_elim
      (λ (q : k ≡ n). let here = ap f q in omega (arith, right_at_most law (joined_over join n f) (f n) (omega arith)))
      (λ (q : k ≡ n → ⊥).
      let rec = over_at_most n k f (grind arith) h in
      omega (arith, left_at_most law (joined_over join n f) (f n) (joined_bounded law (map f (range_with_len 0 n)))))
      (cases_eq k n)
