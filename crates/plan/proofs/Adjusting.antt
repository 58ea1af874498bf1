-- What an adjustment at a candidate does to the parts of a tuning.
use Rattle.std.proofs.Common.{◌≡◌, ℕ, zero, suc, ◌<◌, ◌≤◌, Bool, true, false, List, length, get_or, Some, None, Option, unwrap_or, sym, refl, ap, ◌∙◌, ⊎_elim, arith}
use Rattle.std.proofs.lemmas.List.{get_or-set_same, get_or-set_other, length-set}
use Rattle.std.proofs.lemmas.Bool.{cases_eq, both_ways}
use Rattle.plan.specs.Layout.{cell_place}
use Rattle.plan.specs.Rows.{changed_one, changed, lesser, least_where, row_place}
use Rattle.plan.proofs.Writes.{set_low}

module _ (test : ℕ → Bool) (place : ℕ → ℕ) (g : ℕ → ℕ) where
  pub length_changed : (n : ℕ) (xs : List ℕ) → length (changed test place g n xs) ≡ length xs
  length_changed zero xs = refl
  length_changed (suc n) xs = one (test n) ∙ length_changed n xs
    where
      one : (b : Bool) → length (changed_one b (place n) g (changed test place g n xs)) ≡ length (changed test place g n xs)
      one true = length-set (changed test place g n xs) (place n) _
      one false = refl

  -- no number passes c if g keeps to it
  pub changed_low : (c : ℕ) → ((v : ℕ) → v ≤ c → g v ≤ c) → (n : ℕ) (xs : List ℕ) → ((i : ℕ) → get_or xs i 0 ≤ c) → (i : ℕ) → get_or (changed test place g n xs) i 0 ≤ c
  changed_low c keeps zero xs low i = low i
  changed_low c keeps (suc n) xs low i = one (changed test place g n xs) (changed_low c keeps n xs low) (test n)
    where
      one : (ys : List ℕ) → ((j : ℕ) → get_or ys j 0 ≤ c) → (b : Bool) → get_or (changed_one b (place n) g ys) i 0 ≤ c
      one ys rec true = set_low c ys (place n) (g (get_or ys (place n) 0)) (keeps (get_or ys (place n) 0) (rec (place n))) rec i
      one ys rec false = rec i

  -- what stands elsewhere stays
  pub changed_other : (n : ℕ) (xs : List ℕ) (i : ℕ) → ((k : ℕ) → k < n → test k ≡ true → place k ≡ i → ⊥) → get_or (changed test place g n xs) i 0 ≡ get_or xs i 0
  changed_other zero xs i apart = refl
  changed_other (suc n) xs i apart = one (test n) refl ∙ changed_other n xs i (λ k l. apart k (omega arith))
    where
      one : (b : Bool) → test n ≡ b → get_or (changed_one b (place n) g (changed test place g n xs)) i 0 ≡ get_or (changed test place g n xs) i 0
      one true e = get_or-set_other (changed test place g n xs) (place n) i _ 0 (λ q. apart n (omega arith) e (sym q))
      one false e = refl

  -- what passes the test becomes g of what it was
  pub changed_at : (n : ℕ) (xs : List ℕ) (k : ℕ) → k < n → test k ≡ true → ((j : ℕ) → j < n → place j ≡ place k → j ≡ k) → place k < length xs →
      get_or (changed test place g n xs) (place k) 0 ≡ g (get_or xs (place k) 0)
  changed_at zero xs k l e once within = absurd (omega arith)
  changed_at (suc n) xs k l e once within =
      ⊎_elim
      (λ (q : k ≡ n). here q (test n) refl)
      (λ (d : k ≡ n → ⊥).
      there d (test n) ∙ changed_at n xs k (grind arith) e (λ j m. once j (omega arith)) within)
      (cases_eq k n)
    where
      here : k ≡ n → (b : Bool) → test n ≡ b → get_or (changed_one b (place n) g (changed test place g n xs)) (place k) 0 ≡ g (get_or xs (place k) 0)
      here q true f =
          let same = ap place q in
          let before = changed_other n xs (place k) (λ j m _ p. let z = once j (omega arith) p in omega arith) in
          rw same (get_or-set_same (changed test place g n xs) (place n) (g (get_or (changed test place g n xs) (place n) 0)) 0 (omega (arith, length_changed n xs)) ∙ ap g (rw same at before))
      here q false f = absurd (both_ways (test n) f (rw q at e))

      there : (k ≡ n → ⊥) → (b : Bool) → get_or (changed_one b (place n) g (changed test place g n xs)) (place k) 0 ≡ get_or (changed test place g n xs) (place k) 0
      there d true = get_or-set_other (changed test place g n xs) (place n) (place k) _ 0 (λ p. d (sym (once n (omega arith) (sym p))))
      there d false = refl

-- the least is at most each number that counts
pub least_at_most : (test : ℕ → Bool) (f : ℕ → ℕ) (n k : ℕ) → k < n → test k ≡ true → unwrap_or (least_where test f n) 0 ≤ f k
least_at_most test f n k l e = among n l
  where
    Low : Option ℕ → Type 0
    Low None = ⊥
    Low (Some v) = v ≤ f k

    more : (b : Bool) (v : ℕ) (o : Option ℕ) → Low o → Low (lesser b v o)
    more true v None h = absurd h
    more true v (Some low) h = omega arith
    more false v o h = h

    new : (b : Bool) (o : Option ℕ) → b ≡ true → Low (lesser b (f k) o)
    new true None e = omega arith
    new true (Some low) e = omega arith
    new false o e = absurd (both_ways false refl e)

    low : (n : ℕ) → k < n → Low (least_where test f n)
    low zero h = absurd (omega arith)
    low (suc n) h =
        ⊎_elim
        (λ (q : n ≡ k). rw q (new (test k) (least_where test f k) e))
        (λ (d : n ≡ k → ⊥). more (test n) (f n) (least_where test f n) (low n (grind arith)))
        (cases_eq n k)

    out : (o : Option ℕ) → Low o → unwrap_or o 0 ≤ f k
    out None h = absurd h
    out (Some v) h = h

    among : (n : ℕ) → k < n → unwrap_or (least_where test f n) 0 ≤ f k
    among n h = out (least_where test f n) (low n h)

-- the places of a row
pub row_place_same : (ahead : Bool) (p u v k j : ℕ) → u < 8 → v < 8 → k < 8 → j < 8 → row_place ahead p u k ≡ row_place ahead p v j → (u ≡ v) × (k ≡ j)
row_place_same true p u v k j hu hv hk hj q = (omega arith, omega arith)
row_place_same false p u v k j hu hv hk hj q = (omega arith, omega arith)

pub row_place_within : (ahead : Bool) (p c k : ℕ) → p < 24 → c < 8 → k < 8 → row_place ahead p c k < 1536
row_place_within true p c k hp hc hk = omega arith
row_place_within false p c k hp hc hk = omega arith

pub row_place_pair : (ahead : Bool) (p q a b c k : ℕ) → a < 8 → b < 8 → c < 8 → k < 8 → cell_place q a b ≡ row_place ahead p c k → q ≡ p
row_place_pair true p q a b c k ha hb hc hk e = omega arith
row_place_pair false p q a b c k ha hb hc hk e = omega arith
