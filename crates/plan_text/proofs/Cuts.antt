-- What the places of the separators say of the pieces.
use Rattle.std.proofs.Common.{◌≡◌, ◌≢◌, ℕ, ◌+◌, ◌-◌, ◌<◌, ◌≤◌, min, Bool, true, false, eqb, List, [], ◌∷◌, ◌++◌, length, get_or, take, drop, position, Option, Some, None, MatchOption, Bor, refl, sym, ap, ◌∙◌, append_assoc, arith, length-append, ⊎_elim}
use denote.Param.Members.{Mut}
use Rattle.std.specs.Cmp.Lexicographic.{pointwise}
use Rattle.std.specs.Fn.{ComputesKey}
use Rattle.std.specs.List as list
use Rattle.std.specs.List.{slice_split, position_or_len, IsFirstMatchOrLen}
use Rattle.std.proofs.Math.Seq.{take-append_seam}
use Rattle.std.proofs.lemmas.Bool.{cond-true, cond-false, cases_Bool, cases_lt, eq-eqb, eqb-true}
use Rattle.std.proofs.lemmas.Bool.Decides.{nat_tests, Decides-eqb}
use Rattle.std.proofs.lemmas.List.{take_rest, take_more, get_or_append_left}
use Rattle.std.proofs.lemmas.List.Elements.{All-from_get_or}
use Rattle.std.proofs.lemmas.List.Quantifiers.{position-Some}
use Rattle.std.proofs.lemmas.List.Splits.{slice_split_none, slice_split_first, slice_split_at}
use Rattle.std.proofs.lemmas.List.Sums.{position_or_len_is, fails_before_first}
use Rattle.std.proofs.lemmas.Slice.Eq.{strip_suffix_is}
use Rattle.plan_text.specs.Fields.{pieces, onto_first}

onto_first_same : (b : ℕ) (ps : List (List ℕ)) → onto_first b ps ≡ list.onto_first b ps
onto_first_same b [] = refl
onto_first_same b (p ∷ ps) = refl

-- the pieces are what std's `split` gives
pieces_are_split : (separator : ℕ) (t : List ℕ) →
    pieces separator t ≡ slice_split (λ b. eqb b separator) t
pieces_are_split separator [] = refl
pieces_are_split separator (b ∷ t) = rw (onto_first_same, pieces_are_split separator t) refl

-- there is a first piece
pub pieces_some : (separator : ℕ) (t : List ℕ) →
    (p : List ℕ) × (ps : List (List ℕ)) × (pieces separator t ≡ p ∷ ps)
pieces_some separator [] = ([], [], refl)
pieces_some separator (b ∷ t) =
    let r = pieces_some separator t in
    ⊎_elim
    (λ is. ([], pieces separator t, cond-true _ _ _ is))
    (λ isnt. (b ∷ r.0, r.1, cond-false _ _ _ isnt ∙ ap (onto_first b) r.2))
    (cases_Bool (eqb b separator))

-- none of the first n bytes is the separator
abbrev LacksBefore : ℕ → List ℕ → ℕ → Type 0
LacksBefore separator t n = (k : ℕ) → k < n → eqb (get_or t k 0) separator ≡ false

module _ (separator : ℕ) where
  lone_piece : (t : List ℕ) → LacksBefore separator t (length t) → pieces separator t ≡ t ∷ []
  lone_piece t lacks =
      rw pieces_are_split
      (slice_split_none _ t (All-from_get_or (λ b. eqb b separator ≡ false) t 0 lacks))

  first_piece : (x r : List ℕ) → LacksBefore separator (x ++ separator ∷ r) (length x) →
      pieces separator (x ++ separator ∷ r) ≡ x ∷ pieces separator r
  first_piece x r lacks =
      let apart = λ (k : ℕ) (l : k < length x). rw get_or_append_left at (lacks k l) in
      let none = All-from_get_or (λ b. eqb b separator ≡ false) x 0 apart in
      rw (pieces_are_split separator (x ++ separator ∷ r), pieces_are_split separator r)
      (slice_split_at _ x separator r none (eq-eqb separator separator refl))

  -- the parts are as `&text[..i]` and `&text[i + 1..]` read
  pub cut_at : (t : List ℕ) (i : ℕ) → position (λ b. eqb b separator) t ≡ Some i →
      pieces separator t
      ≡ take i t ∷ pieces separator (take (length t - (i + 1)) (drop (i + 1) t))
  cut_at t i found =
      let at = position-Some (λ b. eqb b separator) t i 0 found in
      let here : position_or_len (λ b. eqb b separator) t ≡ i =
      position_or_len_is _ t i 0 (omega arith) at.2 (λ _. at.1) in
      rw (take_rest, pieces_are_split separator t, pieces_are_split, ← here)
      (slice_split_first _ t 0 (omega arith))

  pub cut_none : (t : List ℕ) → position (λ b. eqb b separator) t ≡ None →
      pieces separator t ≡ t ∷ []
  cut_none t found =
      let past : length t ≤ position_or_len (λ b. eqb b separator) t = grind (arith, nat_tests) in
      lone_piece t (λ k l. fails_before_first (λ b. eqb b separator) t k 0 (omega arith))

-- `split_inclusive` gives x of the text t, and goes on with r
module _ (separator : ℕ) (t x r : List ℕ) (same : t ≡ x ++ r) {i : ℕ}
    (len : length x ≡ min (i + 1) (length t))
    (first : IsFirstMatchOrLen (λ b. eqb b separator) t i) where
  ended : (y : List ℕ) → x ≡ y ++ separator ∷ [] → pieces separator t ≡ y ∷ pieces separator r
  ended y ends =
      let n : length x ≡ length y + 1 = ap length ends ∙ length-append y (separator ∷ []) in
      let whole : t ≡ y ++ separator ∷ r =
      same ∙ ap (λ z. z ++ r) ends ∙ append_assoc y (separator ∷ []) r in
      let lacks : LacksBefore separator t (length y) =
      λ k l. first.0 k 0 (omega arith) (omega arith) in
      rw whole (first_piece separator y r (rw whole at lacks))

  -- where the separator is found in t, x is what stands before it, and it
  found_ended : i < length t → x ≡ take i t ++ separator ∷ []
  found_ended l =
      let n : length x ≡ i + 1 = omega arith in
      sym (ap (take (length x)) same ∙ take-append_seam x r)
      ∙ ap (λ k. take k t) n ∙ take_more t i 0 l
      ∙ ap (λ b. take i t ++ b ∷ []) (eqb-true _ _ (first.1 l 0))

  unended : ((y : List ℕ) → x ≢ y ++ separator ∷ []) → pieces separator t ≡ t ∷ []
  unended none =
      let past : length t ≤ i =
      ⊎_elim (λ l. absurd (none (take i t) (found_ended l))) (λ g. g) (cases_lt i (length t)) in
      lone_piece separator t (λ k l. first.0 k 0 (omega arith) (omega arith))

  stripped : (o : Option (Bor (List ℕ))) →
      MatchOption o ((y : List ℕ) → x ≢ y ++ separator ∷ []) (λ y. x ≡ y.now ++ separator ∷ []) →
      MatchOption o (pieces separator t ≡ t ∷ [])
      (λ y. pieces separator t ≡ y.now ∷ pieces separator r)
  stripped None none = unended none
  stripped (Some y) ends = ended y.now ends

-- o is the first piece of the text t, and r the rest; or o is none, and t the one piece
pub record CutsNext (separator : ℕ) (t : List ℕ) (o : Option (Bor (List ℕ))) (r : List ℕ)
    : Type 0 where
  pub piece : MatchOption o (pieces separator t ≡ t ∷ [])
      (λ y. pieces separator t ≡ y.now ∷ pieces separator r)
  pub some : 0 < length t
  pub shorter : length r < length t

-- what `strip_suffix` leaves of what `split_inclusive` gives
pub cuts_next : {F : Type 0} {g : Mut F (Bor ℕ × Unit {0}) Bool} {f f' : F} (separator : ℕ)
    {t : List ℕ} (x : List ℕ) {r : List ℕ} {o : Option (Bor (List ℕ))} →
    (t ≡ x ++ r)
    × ((i : ℕ) × (length x ≡ min (i + 1) (length t))
    × ((p : ℕ → Bool) → ComputesKey g p f → ComputesKey g p f' × IsFirstMatchOrLen p t i))
    × (0 < length t) →
    ComputesKey g (λ b. eqb b separator) f →
    MatchOption o (pointwise eqb (drop (length x - 1) x) (separator ∷ []) ≡ false)
    (λ y. (pointwise eqb (drop (length x - 1) x) (separator ∷ []) ≡ true)
    × (y.now ≡ take (length x - 1) x) × (length y.now + 1 ≡ length x)) →
    CutsNext separator t o r
cuts_next separator {t} x {r} {o} step computes strips =
    let first = (step.1.2 (λ b. eqb b separator) computes).1 in
    let strip = strip_suffix_is Decides-eqb x (separator ∷ []) o strips in
    record {
      piece = stripped separator t x r step.0 step.1.1 first o strip;
      some = step.2;
      shorter = omega (arith, simp length-append at (ap length step.0), step.1.1, step.2);
    }
