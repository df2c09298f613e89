-- Counts of late wires with the sum of the delays of all: how they are made, joined and compared.
use Rattle.std.specs.Prelude.{Bool, cond, ◌&&◌, ◌||◌, ℕ, ◌≤◌, leb, ltb, eqb}
use Rattle.measures.specs.declared.lates.Late.{Late}
use Rattle.measures.specs.Sums.{stopped_sum, within}

-- so many late wires, and so much delay
abbrev pub late : ℕ → ℕ → Late
late n d = record { count = n; sum = d }

-- no wire
abbrev pub none_late : Late
none_late = late 0 0

-- one wire: late if its delay is above its deadline
abbrev pub late_made : ℕ → ℕ → Late
late_made d t = late (cond (ltb t d) 1 0) d

-- counts summed and delays summed, each of which stops on its own
abbrev pub late_joined : Late → Late → Late
late_joined x y = late (stopped_sum x.count y.count) (stopped_sum x.sum y.sum)

-- by count, then by sum
abbrev pub late_below : Late → Late → Bool
late_below x y = ltb x.count y.count || (eqb x.count y.count && leb x.sum y.sum)

-- of so many wires: no more of them late, and their delays
abbrev pub late_within : ℕ → Late → Type 0
late_within k v = (v.count ≤ k) × within k v.sum
