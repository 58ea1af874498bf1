-- How the entries are written one after another, and what stands where then.
use Rattle.std.proofs.Common.{◌≡◌, ℕ, zero, suc, ◌+◌, ◌*◌, ◌<◌, ◌≤◌, List, length, get_or, take, drop, refl, ap, ◌∙◌, add-one, arith}
use Rattle.std.proofs.lemmas.List.{get_or-take, get_or-drop}
use Rattle.std.proofs.lemmas.Bool.Decides.{nat_tests}
use Rattle.plan.specs.declared.tables.Entries.{Entries}
use Rattle.plan.specs.Filling.{start, listed_own, own_rows, with_own}
use Rattle.plan.specs.Layout.{written_from}
use Rattle.plan.proofs.Writes.{length_written, written_same, written_in, written_before, written_low}

-- one row more
pub row_written : (counts own row : List ℕ) (e : ℕ) (before x y : Entries) → x ≡ with_own before (own_rows counts own e before.own) →
    row ≡ take (get_or counts e 0) (drop (start counts e) own) → length row ≡ get_or counts e 0 →
    y ≡ with_own x (written_from (8 * e) (λ c. get_or row c 0) (length row) x.own) → y ≡ with_own before (own_rows counts own (e + 1) before.own)
row_written counts own row e before x y rows is long wrote =
    let n = get_or counts e 0 in
    let f = λ (c : ℕ). get_or row c 0 in
    let each = λ (c : ℕ) (h : c < n). ap (λ (r : List ℕ). get_or r c 0) is ∙ get_or-take n (drop (start counts e) own) c 0 h ∙ get_or-drop (start counts e) own c 0 in
    let same : written_from (8 * e) f (length row) x.own ≡ written_from (8 * e) (listed_own counts own e) n x.own =
    ap (λ (m : ℕ). written_from (8 * e) f m x.own) long ∙ written_same (8 * e) f (listed_own counts own e) n x.own each in
    rw add-one (wrote ∙ ap (with_own x) same ∙ ap (λ (z : Entries). with_own z (written_from (8 * e) (listed_own counts own e) n z.own)) rows)

module _ (counts own : List ℕ) where
  pub length_rows : (n : ℕ) (places : List ℕ) → length (own_rows counts own n places) ≡ length places
  length_rows zero places = refl
  length_rows (suc n) places = length_written (8 * n) (listed_own counts own n) (get_or counts n 0) (own_rows counts own n places) ∙ length_rows n places

  -- the own penalty of a candidate stands at its place
  pub rows_at : (n : ℕ) (places : List ℕ) (e c : ℕ) → length places ≡ 128 → n ≤ 16 → ((i : ℕ) → i < n → get_or counts i 0 ≤ 8) → e < n → c < get_or counts e 0 →
      get_or (own_rows counts own n places) (8 * e + c) 0 ≡ listed_own counts own e c
  rows_at zero places e c long hn few he hc = absurd (omega arith)
  rows_at (suc n) places e c long hn few he hc =
      let rows = own_rows counts own n places in
      let low = few n (omega arith) in
      let low_e = few e he in
      let long_rows = length_rows n places in
      let here = written_in (8 * n) (listed_own counts own n) (get_or counts n 0) rows c 0 (omega arith) in
      let before = written_before (8 * n) (listed_own counts own n) (get_or counts n 0) rows (8 * e + c) 0 in
      let rec = rows_at n places e c long (omega arith) (λ i h. few i (omega arith)) in
      grind (arith, nat_tests)

  -- no own penalty passes the ceiling
  pub rows_low : (ceiling n : ℕ) (places : List ℕ) → ((i : ℕ) → get_or own i 0 ≤ ceiling) → ((i : ℕ) → get_or places i 0 ≤ ceiling) → (i : ℕ) → get_or (own_rows counts own n places) i 0 ≤ ceiling
  rows_low ceiling zero places low begun i = begun i
  rows_low ceiling (suc n) places low begun i =
      written_low ceiling (8 * n) (listed_own counts own n) (get_or counts n 0) (own_rows counts own n places) (λ k l. low (start counts n + k)) (rows_low ceiling n places low begun) i
