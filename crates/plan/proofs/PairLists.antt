-- Each pair is listed once, and each record's pair is listed.
use Rattle.std.proofs.Common.{◌≡◌, ℕ, zero, suc, ◌<◌, true, false, cond, eqb, List, [], ◌∷◌, ◌++◌, length, get_or, ⊎_elim, arith}
use Rattle.std.proofs.lemmas.List.{length_push, get_or_append_left, get_or_push, get_or_past}
use Rattle.std.proofs.lemmas.Bool.{false≢true, cases_Bool}
use Rattle.std.proofs.lemmas.Bool.Decides.{nat_tests}
use Rattle.plan.specs.declared.records.PairRecord.{PairRecord}
use Rattle.plan.specs.Records.{at, of_pair, pair_met, pairs_of}
use Rattle.plan.proofs.MetRecords.{met_longer}

-- the entries of a listed pair
abbrev pub first_in : List (ℕ × ℕ) → ℕ → ℕ
first_in ps q = (get_or ps q (0, 0)).0

abbrev pub second_in : List (ℕ × ℕ) → ℕ → ℕ
second_in ps q = (get_or ps q (0, 0)).1

-- what stands at a place of a list with one more at its end
pub get_or-push : {A : Type 0} (xs : List A) (x d : A) (q : ℕ) → get_or (xs ++ x ∷ []) q d ≡ cond (eqb q (length xs)) x (get_or xs q d)
get_or-push xs x d q = let long = length_push xs x in grind (arith, nat_tests, get_or_append_left, get_or_push, get_or_past)

module _ (rs : List PairRecord) where
  -- what no record is of is not listed
  abbrev pub Unlisted : ℕ → ℕ → ℕ → ℕ → Type 0
  Unlisted k e o q = pair_met rs k e o ≡ false → q < length (pairs_of rs k) → first_in (pairs_of rs k) q ≡ e → second_in (pairs_of rs k) q ≡ o → ⊥

  -- nor one record later
  unmet_more : (k e o q : ℕ) → Unlisted k e o q → Unlisted (suc k) e o q
  unmet_more k e o q rec m h f s =
      let ps = pairs_of rs k in
      let r = at rs k in
      let at_place = get_or-push ps (r.entry, r.other) (0, 0) q in
      let lp = length_push ps (r.entry, r.other) in
      grind (arith, nat_tests)

  pub unmet : (k e o q : ℕ) → Unlisted k e o q
  unmet zero e o q = λ m h f s. omega arith
  unmet (suc k) e o q = unmet_more k e o q (unmet k e o q)

  -- no pair is listed twice
  abbrev pub Apart : ℕ → ℕ → ℕ → Type 0
  Apart k i j = i < length (pairs_of rs k) → j < length (pairs_of rs k) → first_in (pairs_of rs k) i ≡ first_in (pairs_of rs k) j → second_in (pairs_of rs k) i ≡ second_in (pairs_of rs k) j → i ≡ j

  -- nor one record later
  apart_more : (k i j : ℕ) → Apart k i j → Apart (suc k) i j
  apart_more k i j rec hi hj f s =
      let ps = pairs_of rs k in
      let r = at rs k in
      let ui = unmet k r.entry r.other i in
      let uj = unmet k r.entry r.other j in
      let at_i = get_or-push ps (r.entry, r.other) (0, 0) i in
      let at_j = get_or-push ps (r.entry, r.other) (0, 0) j in
      let lp = length_push ps (r.entry, r.other) in
      grind (arith, nat_tests)

  pub apart : (k i j : ℕ) → Apart k i j
  apart zero i j = λ hi hj f s. absurd (omega arith)
  apart (suc k) i j = apart_more k i j (apart k i j)

  -- a pair that a record is of is listed
  pub record Listed (k e o : ℕ) : Type 0 where
    pub place : ℕ
    pub within : place < length (pairs_of rs k)
    pub first_is : first_in (pairs_of rs k) place ≡ e
    pub second_is : second_in (pairs_of rs k) place ≡ o

  -- one that was listed is listed still
  still : (k e o : ℕ) → Listed k e o → Listed (suc k) e o
  still k e o l =
      let ps = pairs_of rs k in
      let r = at rs k in
      let q = l.place in
      let at_place = get_or-push ps (r.entry, r.other) (0, 0) q in
      let lp = length_push ps (r.entry, r.other) in
      record { place = q; within = grind (arith, nat_tests); first_is = grind (arith, nat_tests); second_is = grind (arith, nat_tests) }

  pub listed : (k e o : ℕ) → pair_met rs k e o ≡ true → Listed k e o
  listed zero e o m = absurd (false≢true m)
  listed (suc k) e o m =
      let ps = pairs_of rs k in
      let r = at rs k in
      let q = length ps in
      let at_place = get_or-push ps (r.entry, r.other) (0, 0) q in
      let lp = length_push ps (r.entry, r.other) in
      ⊎_elim
      (λ (t : pair_met rs k e o ≡ true). still k e o (listed k e o t))
      (λ (f : pair_met rs k e o ≡ false). record { place = q; within = grind (arith, nat_tests); first_is = grind (arith, nat_tests); second_is = grind (arith, nat_tests) })
      (cases_Bool (pair_met rs k e o))

  -- so the pair of each record is listed
  pub listed_at : (k j : ℕ) → j < k → Listed k (at rs j).entry (at rs j).other
  listed_at k j h =
      let r = at rs j in
      listed k r.entry r.other (met_longer (λ s. of_pair s r.entry r.other) rs j k h (grind (arith, nat_tests)))
