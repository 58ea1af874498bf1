-- The marks of an entry, taken out of all marks: what is done by them is done for its open candidates.
use Rattle.std.proofs.Common.{◌≡◌, ℕ, zero, suc, ◌+◌, ◌<◌, Bool, false, List, length, drop, unwrap_or, refl, sym, ap, ◌∙◌, subst, get_or, arith}
use Rattle.std.proofs.lemmas.List.{get_or-take, get_or-drop, length-take, length-drop}
use Rattle.plan.specs.declared.tables.Tables.{Tables}
use Rattle.plan.specs.Invariant.{Sound}
use Rattle.plan.specs.Layout.{candidate_place, count_of, open_at}
use Rattle.plan.specs.Rows.{changed_one, changed, lesser, least_where, is_marked, marks_of}

-- the marks are those of the candidates of the entry e
pub record MarksOf (x : Tables) (e : ℕ) (marks : List Bool) : Type 0 where
  pub as_many : length marks ≡ count_of x e
  pub same : (k : ℕ) → k < count_of x e → is_marked marks k ≡ open_at x e k

pub are_of : (x : Tables) → Sound x → (e : ℕ) → e < 16 → MarksOf x e (marks_of x.entries e)
are_of x s e h =
    let start = candidate_place e 0 in
    record {
      as_many = omega (arith, length-take (count_of x e) (drop start x.entries.marks), length-drop start x.entries.marks, s.0.2 e, s.0.4);
      same = λ k l.
          let place : start + k ≡ candidate_place e k = omega arith in
          get_or-take (count_of x e) (drop start x.entries.marks) k false l ∙ get_or-drop start x.entries.marks k false ∙ ap (λ (i : ℕ). get_or x.entries.marks i false) place;
    }

-- tests that agree change the same numbers, and find the same least
changed_same : (s t : ℕ → Bool) (at by : ℕ → ℕ) (n : ℕ) (xs : List ℕ) → ((k : ℕ) → k < n → s k ≡ t k) → changed s at by n xs ≡ changed t at by n xs
changed_same s t at by zero xs h = refl
changed_same s t at by (suc n) xs h =
    ap (changed_one (s n) (at n) by) (changed_same s t at by n xs (λ k l. h k (omega arith))) ∙ ap (λ (b : Bool). changed_one b (at n) by (changed t at by n xs)) (h n (omega arith))

least_same : (s t : ℕ → Bool) (f : ℕ → ℕ) (n : ℕ) → ((k : ℕ) → k < n → s k ≡ t k) → least_where s f n ≡ least_where t f n
least_same s t f zero h = refl
least_same s t f (suc n) h =
    ap (lesser (s n) (f n)) (least_same s t f n (λ k l. h k (omega arith))) ∙ ap (λ (b : Bool). lesser b (f n) (least_where t f n)) (h n (omega arith))

module _ (x : Tables) (s : Sound x) (e : ℕ) (h : e < 16) (marks : List Bool) (is : marks ≡ marks_of x.entries e) where
  of : MarksOf x e marks
  of = subst (MarksOf x e) (sym is) (are_of x s e h)

  pub changed_of : (at by : ℕ → ℕ) (xs : List ℕ) → changed (is_marked marks) at by (length marks) xs ≡ changed (open_at x e) at by (count_of x e) xs
  changed_of at by xs = ap (λ (n : ℕ). changed (is_marked marks) at by n xs) of.as_many ∙ changed_same (is_marked marks) (open_at x e) at by (count_of x e) xs of.same

  pub least_of : (f : ℕ → ℕ) → unwrap_or (least_where (is_marked marks) f (length marks)) 0 ≡ unwrap_or (least_where (open_at x e) f (count_of x e)) 0
  least_of f = ap (λ (n : ℕ). unwrap_or (least_where (is_marked marks) f n) 0) of.as_many ∙ ap (λ o. unwrap_or o 0) (least_same (is_marked marks) (open_at x e) f (count_of x e) of.same)
