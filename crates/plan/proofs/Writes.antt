-- What stands where after writes one after another.
use Rattle.std.proofs.Common.{◌≡◌, ℕ, zero, suc, ◌+◌, ◌<◌, ◌≤◌, cond, eqb, List, [], ◌∷◌, ◌++◌, map, length, get_or, take, set, sym, refl, ap, ◌∙◌, append_assoc, append-nil, add-zero, add-one, arith}
use Rattle.std.specs.List.{range_with_len}
use borrow.Rule.Slice.PartMut.{put_mid}
use Rattle.std.proofs.lemmas.List.FromFn.{map-range_with_len_more}
use Rattle.std.proofs.lemmas.Slice.{put_mid-paste}
use Rattle.std.proofs.Math.Seq.{paste, paste-zero, paste-suc}
use Rattle.std.proofs.lemmas.List.{set_past, length-set, get_or-set_same, get_or-set_other, take_more_set}
use Rattle.std.proofs.lemmas.Bool.Decides.{nat_tests}
use Rattle.plan.specs.Layout.{written_from}

-- what stands at a place after one write
pub set_at : {A : Type 0} (xs : List A) (i k : ℕ) (v d : A) → i < length xs → get_or (set xs i v) k d ≡ cond (eqb k i) v (get_or xs k d)
set_at xs i k v d h = grind (arith, nat_tests, get_or-set_same, get_or-set_other)

module _ {A : Type 0} (o : ℕ) (f : ℕ → A) where
  pub length_written : (n : ℕ) (xs : List A) → length (written_from o f n xs) ≡ length xs
  length_written zero xs = refl
  length_written (suc n) xs = length-set (written_from o f n xs) (o + n) (f n) ∙ length_written n xs

  -- the front, up to the last write
  pub take_written : (n : ℕ) (xs : List A) → o + n ≤ length xs → take (o + n) (written_from o f n xs) ≡ take o xs ++ map f (range_with_len 0 n)
  take_written zero xs h = rw add-zero (sym (append-nil (take o xs)))
  take_written (suc n) xs h =
      let ys = written_from o f n xs in
      let one : o + suc n ≡ o + n + 1 = omega arith in
      let more : map f (range_with_len 0 (suc n)) ≡ map f (range_with_len 0 n) ++ f n ∷ [] = rw add-one at (map-range_with_len_more f 0 n n (omega arith)) in
      ap (λ (k : ℕ). take k (set ys (o + n) (f n))) one
      ∙ take_more_set ys (o + n) (f n) (omega (arith, length_written n xs))
      ∙ ap (λ zs. zs ++ f n ∷ []) (take_written n xs (omega arith))
      ∙ append_assoc (take o xs) (map f (range_with_len 0 n)) (f n ∷ [])
      ∙ ap (λ zs. take o xs ++ zs) (sym more)

  -- what was written stands where it was written, and what stands before it stays
  pub written_in : (n : ℕ) (xs : List A) (k : ℕ) (d : A) → o + n ≤ length xs → k < n → get_or (written_from o f n xs) (o + k) d ≡ f k
  written_in zero xs k d h l = absurd (omega arith)
  written_in (suc n) xs k d h l =
      let rec = written_in n xs k d (omega arith) in
      let put = set_at (written_from o f n xs) (o + n) (o + k) (f n) d (omega (arith, length_written n xs)) in
      grind (arith, nat_tests)

  pub written_before : (n : ℕ) (xs : List A) (i : ℕ) (d : A) → i < o → get_or (written_from o f n xs) i d ≡ get_or xs i d
  written_before zero xs i d h = refl
  written_before (suc n) xs i d h = get_or-set_other (written_from o f n xs) (o + n) i (f n) d (λ (z : i ≡ o + n). omega arith) ∙ written_before n xs i d h

  pub written_same : (g : ℕ → A) (n : ℕ) (xs : List A) → ((k : ℕ) → k < n → f k ≡ g k) → written_from o f n xs ≡ written_from o g n xs
  written_same g zero xs h = refl
  written_same g (suc n) xs h = rw (written_same g n xs (λ k l. h k (omega arith)), h n (omega arith)) refl

-- the items of a list written from o on are the list copied there
written-paste : (o n : ℕ) (zs xs : List ℕ) → n ≤ length zs → o + length zs ≤ length xs → written_from o (λ i. get_or zs i 0) n xs ≡ paste xs o zs n
written-paste o zero zs xs h l = paste-zero xs o zs
written-paste o (suc n) zs xs h l =
    ap (λ ys. set ys (o + n) (get_or zs n 0)) (written-paste o n zs xs (omega arith) l) ∙ paste-suc xs o zs n 0 (omega arith) h

pub copied : (o k : ℕ) (xs ys zs : List ℕ) → ys ≡ zs → k ≡ length zs → o + k ≤ length xs → put_mid o k xs ys ≡ written_from o (λ i. get_or zs i 0) (length zs) xs
copied o k xs ys zs is many h = put_mid-paste o k xs ys zs (length zs) is (sym many) refl ∙ sym (written-paste o (length zs) zs xs (omega arith) (omega arith))

-- no number passes c after a write of one that does not
pub set_low : (c : ℕ) (xs : List ℕ) (i v : ℕ) → v ≤ c → ((k : ℕ) → get_or xs k 0 ≤ c) → (k : ℕ) → get_or (set xs i v) k 0 ≤ c
set_low c xs i v h low k = let here = low k in grind (arith, nat_tests, get_or-set_same, get_or-set_other, set_past)

pub written_low : (c o : ℕ) (f : ℕ → ℕ) (n : ℕ) (xs : List ℕ) → ((k : ℕ) → k < n → f k ≤ c) → ((k : ℕ) → get_or xs k 0 ≤ c) → (k : ℕ) → get_or (written_from o f n xs) k 0 ≤ c
written_low c o f zero xs h low k = low k
written_low c o f (suc n) xs h low k = set_low c (written_from o f n xs) (o + n) (f n) (h n (omega arith)) (written_low c o f n xs (λ j l. h j (omega arith)) low) k
