-- Values in reach of the wires of a bundle stay below a number.
use Rattle.std.specs.Prelude.{ℕ, ◌<◌, ◌≤◌}
use Rattle.measures.specs.declared.sums.Total.{Total}
use Rattle.measures.specs.declared.largest.Worst.{Worst}
use Rattle.measures.specs.declared.lates.Late.{Late}
use Rattle.measures.specs.declared.lates.LateFirst.{LateFirst}
use Rattle.measures.specs.contracts.sums.TotalDelayMeasure.TheImpl as of_total
use Rattle.measures.specs.contracts.largest.WorstDelayMeasure.TheImpl as of_worst
use Rattle.measures.specs.contracts.lates.LateFirstDelayMeasure.TheImpl as of_late_first

-- no value in reach of at most 24 wires attains the number n, in any part
pub record Unattained (n : ℕ) : Type 0 where
  pub by_total : (m : Total) (k v : ℕ) → k ≤ 24 → (of_total.ghosts).reach m k v → v < n
  pub by_worst : (m : Worst) (k v : ℕ) → k ≤ 24 → (of_worst.ghosts).reach m k v → v < n
  pub by_late_first : (m : LateFirst) (k : ℕ) (v : Late) → k ≤ 24 → (of_late_first.ghosts).reach m k v
      → (v.count < n) × (v.sum < n)
