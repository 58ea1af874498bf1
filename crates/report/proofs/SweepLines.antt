-- What loops over candidates and over sweeps write.
use Rattle.std.proofs.Common.{◌≡◌, ℕ, suc, ◌+◌, ◌-◌, ◌<◌, Bool, if◌then◌else◌, List, ◌++◌, refl, arith}
use Rattle.plan.specs.declared.tables.Tables.{Tables}
use Rattle.plan.specs.Settling.{unchanged}
use Rattle.report.specs.SweepReports.{candidate_line, candidate_lines, swept_tables, sweep_lines}

-- a text, and then the line of a candidate
abbrev pub with_candidate : List ℕ → ℕ → Tables → List ℕ → ℕ × ℕ → List ℕ
with_candidate name made x text p = text ++ candidate_line name made x p.0 p.1

module _ (name : List ℕ) (join rest : ℕ → ℕ → ℕ → ℕ) where
  -- where no sweep is left, the text stays
  pub no_sweep_more : (n made : ℕ) (x : Tables) (text : List ℕ) → n ≡ 0 →
      sweep_lines name join rest n made x text ≡ text
  unfolding sweep_lines
  no_sweep_more n made x text none = rw none refl

  -- a sweep from the tables x to y, and its lines
  module _ (made : ℕ) (x y : Tables) (text lines : List ℕ) (stable : Bool)
      (swept : y ≡ swept_tables join rest x)
      (writes : lines ≡ candidate_lines name (made + 1) y text)
      (says : stable ≡ unchanged x y) where
    first_sweep : (n : ℕ) →
        sweep_lines name join rest (suc n) made x text
        ≡ (if stable then lines else sweep_lines name join rest n (made + 1) y lines)
    unfolding sweep_lines
    first_sweep n = rw (says, writes, swept) refl

    -- either they are the last, or with those that are still to come they are the whole
    pub one_sweep_more : (sweeps : ℕ) (whole : List ℕ) → made < sweeps →
        sweep_lines name join rest (sweeps - made) made x text ≡ whole →
        (if stable then lines
        else sweep_lines name join rest (sweeps - (made + 1)) (made + 1) y lines) ≡ whole
    one_sweep_more sweeps whole some to_come =
        let left : sweeps - made ≡ suc (sweeps - (made + 1)) = omega arith in
        rw (left, first_sweep (sweeps - (made + 1))) at to_come
