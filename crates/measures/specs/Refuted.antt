-- 'Worst, then total': the larger of the worst delays and the sum of the totals, compared by worst, then by total.
use Rattle.std.specs.Prelude.{◌≡◌, Bool, true, false, ◌&&◌, ◌||◌, ℕ, max, leb, ltb, eqb}
use Rattle.measures.specs.declared.refuted.WorstTotal.{WorstTotal}
use Rattle.measures.specs.Laws.{Laws}
use Rattle.measures.specs.Sums.{stopped_sum}

-- so much at worst, and so much in total
abbrev pub worst_total : ℕ → ℕ → WorstTotal
worst_total w s = record { worst = w; total = s }

-- one wire
abbrev pub worst_total_made : ℕ → ℕ → WorstTotal
worst_total_made d t = worst_total d d

-- the larger worst delay, and the totals summed
abbrev pub worst_total_joined : WorstTotal → WorstTotal → WorstTotal
worst_total_joined x y = worst_total (max x.worst y.worst) (stopped_sum x.total y.total)

-- by worst, then by total
abbrev pub worst_total_below : WorstTotal → WorstTotal → Bool
worst_total_below x y = ltb x.worst y.worst || (eqb x.worst y.worst && leb x.total y.total)

-- x is below y, but no more so when z is joined to both
pub record Unsteady (x y z : WorstTotal) : Type 0 where
  pub before : worst_total_below x y ≡ true
  pub after : worst_total_below (worst_total_joined x z) (worst_total_joined y z) ≡ false

-- whatever its empty value is, and whichever test says what is in reach, it does not keep the laws
abbrev pub NoMeasure : Type 0
NoMeasure = (none : WorstTotal) (near : ℕ → WorstTotal → Bool)
    → Laws none worst_total_made worst_total_joined worst_total_below (λ k v. near k v ≡ true) → ⊥
